-- The keys that an index of keys holds.
use Rattle.py_node.specs.Below.{List}
use Rattle.py_node.specs.declared.dict.PyDictKey.{PyDictKey}
use Rattle.py_node.specs.declared.key_index.KeyStore.{KeyStore}
use Rattle.py_node.specs.declared.key_index.KeyStore.TheVariants as store

-- those of the list, or of the set
abbrev pub keys_in : KeyStore → List PyDictKey
keys_in (store.Few keys) = keys
keys_in (store.Many b) = b.value.keys
