-- The names with values that a store of attributes holds.
use Rattle.py_node.specs.Below.{List}
use Rattle.py_node.specs.declared.refs.PyObjectRef.{PyObjectRef}
use Rattle.py_node.specs.declared.refs.PyStrInterned.{PyStrInterned}
use Rattle.py_node.specs.declared.attributes.AttributeStore.{AttributeStore}
use Rattle.py_node.specs.declared.attributes.AttributeStore.TheVariants as store

-- those of the list, or of the map
abbrev pub attributes_in : AttributeStore → List (PyStrInterned × PyObjectRef)
attributes_in (store.Few entries) = entries
attributes_in (store.Many b) = b.value.entries
