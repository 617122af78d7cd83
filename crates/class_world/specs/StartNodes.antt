-- The nodes of a new machine, as they are stored: those that are fixed, and those that own attributes of built-in classes hold.
use Rattle.class_world.specs.Below.{pos, cond, List, [], Some, None, map, fold, Attr, New, ClassMethod as ClassMethodAttr, ReadOnly, Settable, Part, SettablePart, NoHash, BuiltIn, Node, Payload, Getter, Setter, GetterOf, SetterOf, NewWrapper, Known, Object, NativeFunction, MethodDescriptor, GetSet, PyStrInterned, PyTypeRef, place_of, all_built_ins, number_of, own_attrs, the_type, the_none_type, the_not_implemented_type, the_bool, object_method, class_method, attr_class, is_made, ref}
use Rattle.std.specs.Prelude.{◌∷◌, ◌++◌}
use Rattle.py_node.specs.declared.attr.Attr.TheVariants.{Method as MethodAttr}
use Rattle.py_node.specs.declared.payload.Payload.TheVariants.{Class, Number}

abbrev pub type_ref : PyTypeRef
type_ref = record { 0 = the_type }

-- an object that has no dict
abbrev pub plain_node : PyTypeRef → Payload → Node
plain_node c p = record { class = c; dict = None; members = []; payload = p }

abbrev pub class_node : BuiltIn → Node
class_node b = plain_node type_ref (Class (record { 0 = place_of b }))

-- None, NotImplemented, False and True
abbrev pub fixed_nodes : List Node
fixed_nodes =
    plain_node (record { 0 = the_none_type }) Object ∷ plain_node (record { 0 = the_not_implemented_type }) Object ∷ plain_node (record { 0 = the_bool }) (Number (pos 0)) ∷ plain_node (record { 0 = the_bool }) (Number (pos 1)) ∷ []

abbrev pub start_nodes : List Node
start_nodes = map class_node all_built_ins ++ fixed_nodes

-- what the object is that an own attribute of a class holds, under a name
abbrev pub own_payload : BuiltIn → PyStrInterned → Attr → Payload
own_payload b x New = NativeFunction (record { name = x; entry = NewWrapper; target = Some (ref (place_of b)); doc = None })
own_payload b x (MethodAttr n) = MethodDescriptor (record { class = record { 0 = place_of b }; name = x; entry = n; flags = object_method; doc = None })
own_payload b x (ClassMethodAttr n) = MethodDescriptor (record { class = record { 0 = place_of b }; name = x; entry = n; flags = class_method; doc = None })
own_payload b x (ReadOnly p) = GetSet (record { class = record { 0 = place_of b }; name = x; getter = Some (Getter p); setter = None })
own_payload b x (Settable p) = GetSet (record { class = record { 0 = place_of b }; name = x; getter = Some (Getter p); setter = Some (Setter p) })
own_payload b x (Part d) = GetSet (record { class = record { 0 = place_of b }; name = x; getter = Some (GetterOf b d); setter = None })
own_payload b x (SettablePart d) = GetSet (record { class = record { 0 = place_of b }; name = x; getter = Some (GetterOf b d); setter = Some (SetterOf b d) })
own_payload b x NoHash = Object

abbrev pub own_node : BuiltIn → PyStrInterned → Attr → Node
own_node b x a = plain_node (record { 0 = place_of (attr_class a) }) (own_payload b x a)

-- one more such object, but for None, which is there
unfoldable pub with_own_node : BuiltIn → List Node → Known × Attr → List Node
with_own_node b ns a = cond (is_made a.1) (ns ++ own_node b (record { 0 = number_of a.0 }) a.1 ∷ []) ns

-- those of a class, in order
abbrev pub with_own_nodes : List Node → BuiltIn → List Node
with_own_nodes ns b = fold (with_own_node b) ns (own_attrs b)

-- those of all built-in classes
unfoldable pub opening_nodes : List Node
opening_nodes = fold with_own_nodes start_nodes all_built_ins
