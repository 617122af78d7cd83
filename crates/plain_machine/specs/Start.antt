-- The world of a new machine: a node for each built-in class, then None, NotImplemented, False and True, and then a node for each own attribute of a built-in class but None.
use Rattle.plain_machine.specs.Below.{ℕ, pos, Bool, true, false, cond, List, [], Some, None, map, fold, BuiltIn, Getter, Setter, GetterOf, SetterOf, NewWrapper, Known, Attr, New, Method, ClassMethod, ReadOnly, Settable, Part, SettablePart, NoHash, place_of, all_built_ins, fixed_none, known_text, own_attrs, PyObjectRef, Text, built_in_classes}
use Rattle.std.specs.Prelude.{◌∷◌, ◌++◌}
use Rattle.py_node.specs.declared.built_in.BuiltIn.TheVariants as built_in
use Rattle.plain_machine.specs.Known.{the_type, the_none_type, the_not_implemented_type, the_bool}
use Rattle.plain_machine.specs.Plain.{Datum, AnObject, AClass, ANumber, ANativeFunction, AMethodDescriptor, AGetSet, no_members, Node, PlainWorld}
use Rattle.plain_machine.specs.World.{ref, with_node, next_node, with_own_attr}
use Rattle.plain_machine.specs.Objects.{object_method, class_method}

abbrev pub simple_node : ℕ → Datum → Node
simple_node c d = record { class = c; dict = None; members = no_members; datum = d }

abbrev pub class_node : BuiltIn → Node
class_node b = simple_node the_type (AClass (place_of b))

-- None, NotImplemented, False and True
abbrev pub fixed_nodes : List Node
fixed_nodes = simple_node the_none_type AnObject ∷ simple_node the_not_implemented_type AnObject ∷ simple_node the_bool (ANumber (pos 0)) ∷ simple_node the_bool (ANumber (pos 1)) ∷ []

-- the built-in classes without attributes, and the fixed objects
abbrev pub bare : PlainWorld
bare = record { nodes = map class_node all_built_ins ++ fixed_nodes; classes = built_in_classes; vars = []; scopes = []; calls = [] }

-- the class of the object that an own attribute holds
abbrev pub attr_class : Attr → BuiltIn
attr_class New = built_in.BuiltinFunctionOrMethod
attr_class (Method n) = built_in.MethodDescriptor
attr_class (ClassMethod n) = built_in.MethodDescriptor
attr_class (ReadOnly p) = built_in.GetSetDescriptor
attr_class (Settable p) = built_in.GetSetDescriptor
attr_class (Part d) = built_in.GetSetDescriptor
attr_class (SettablePart d) = built_in.GetSetDescriptor
attr_class NoHash = built_in.NoneType

-- what this object is, for a class and a name
abbrev pub attr_datum : BuiltIn → Text → Attr → Datum
attr_datum b x New = ANativeFunction x NewWrapper (Some (ref (place_of b))) None
attr_datum b x (Method n) = AMethodDescriptor (place_of b) x n object_method None
attr_datum b x (ClassMethod n) = AMethodDescriptor (place_of b) x n class_method None
attr_datum b x (ReadOnly p) = AGetSet (place_of b) x (Some (Getter p)) None
attr_datum b x (Settable p) = AGetSet (place_of b) x (Some (Getter p)) (Some (Setter p))
attr_datum b x (Part d) = AGetSet (place_of b) x (Some (GetterOf b d)) None
attr_datum b x (SettablePart d) = AGetSet (place_of b) x (Some (GetterOf b d)) (Some (SetterOf b d))
attr_datum b x NoHash = AnObject

-- whether this object is made for the attribute: all but None are
abbrev pub is_made : Attr → Bool
is_made NoHash = false
is_made a = true

-- the world with this object, and its number
abbrev pub with_value : BuiltIn → PlainWorld → Text → Attr → PlainWorld
with_value b w x a = cond (is_made a) (with_node w (place_of (attr_class a)) (attr_datum b x a)) w

abbrev pub value_in : PlainWorld → Attr → PyObjectRef
value_in w a = cond (is_made a) (next_node w (place_of (attr_class a))) (ref fixed_none)

-- an own attribute under its name in its class
unfoldable pub with_attr : BuiltIn → PlainWorld → Known × Attr → PlainWorld
with_attr b w a = with_own_attr (with_value b w (known_text a.0) a.1) (place_of b) (known_text a.0) (value_in w a.1)

-- the own attributes of a class, in order
abbrev pub with_attrs : PlainWorld → BuiltIn → PlainWorld
with_attrs w b = fold (with_attr b) w (own_attrs b)

unfoldable pub start : PlainWorld
start = fold with_attrs bare all_built_ins
