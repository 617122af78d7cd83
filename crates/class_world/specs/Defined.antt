-- Functions as they are stored, and the classes that define them; and properties with other parts.
use Rattle.class_world.specs.Below.{Option, Some, None, with_value, Function, Node, Payload, PyProperty, PyTypeRef}
use Rattle.py_node.specs.declared.payload.Payload.TheVariants as payload

abbrev pub or_class_ref : Option PyTypeRef → PyTypeRef → Option PyTypeRef
or_class_ref None c = Some c
or_class_ref (Some d) c = Some d

abbrev pub defined_function : PyTypeRef → Function → Function
defined_function c f = record f { class = or_class_ref f.class c }

-- a function that no class defines yet is defined by this one
abbrev pub defined_payload : PyTypeRef → Payload → Payload
defined_payload c (payload.Function f) = payload.Function (with_value f (defined_function c f.value))
defined_payload c p = p

-- a property with other parts
abbrev pub with_parts : PyProperty → Payload → Payload
with_parts v (payload.Property p) = payload.Property (with_value p v)
with_parts v p = p

abbrev pub defined_node : PyTypeRef → Node → Node
defined_node c n = record n { payload = defined_payload c n.payload }
