-- What rows read of objects and classes.
use Rattle.plain_machine.specs.Below.{ℕ, Bool, true, false, nat_lt, List, [], Option, Some, None, option_map, option_and_then, bit_and, PyObjectRef, method_descriptor, Text, class_at as class_numbered, Classes, found, is_sub, has_flag, lin, built_ins, first_with}
use Rattle.std.specs.Prelude.{◌^◌, ◌&&◌, ◌==◌, ◌∷◌}
use Rattle.plain_machine.specs.Plain.{Datum, AClass, AFunction, AClassMethod, AMethodDescriptor, Node, PlainWorld}
use Rattle.plain_machine.specs.World.{ref, datum_at, class_at, is_text, with_node_changed}

-- the object that stands for a class
abbrev pub class_object : PlainWorld → ℕ → PyObjectRef
class_object w c = ref c

abbrev pub object_for : PlainWorld → Option ℕ → PyObjectRef
object_for w None = ref 0
object_for w (Some c) = class_object w c

-- the object that stands for an object's class
abbrev pub type_object : PlainWorld → PyObjectRef → PyObjectRef
type_object w r = object_for w (class_at w r)

-- the class that an object stands for
abbrev pub class_number : Option Datum → Option ℕ
class_number (Some (AClass c)) = Some c
class_number _ = None

-- the value of a name along the linearisation of an object's class
abbrev pub special_at : PlainWorld → PyObjectRef → Text → Option PyObjectRef
special_at w r x = option_and_then (λ c. found is_text w.classes c x) (class_at w r)

abbrev pub derives : PlainWorld → Option ℕ → ℕ → Bool
derives w None d = false
derives w (Some c) d = is_sub w.classes c d

-- whether an object's class derives from a class
abbrev pub is_instance : PlainWorld → PyObjectRef → ℕ → Bool
is_instance w r d = derives w (class_at w r) d

abbrev pub or_false : Option Bool → Bool
or_false None = false
or_false (Some b) = b

abbrev pub class_has_flag : PlainWorld → ℕ → Option ℕ → Bool
class_has_flag w flag None = false
class_has_flag w flag (Some c) = or_false (option_map (λ k. has_flag flag k) (class_numbered w.classes c))

-- whether a native as a method has a flag
abbrev pub method_has : ℕ → ℕ → Bool
method_has flag flags = bit_and flags flag == flag

-- the flags of natives as methods: of the objects, and of the class
abbrev pub object_method : ℕ
object_method = 2 ^ 9

abbrev pub class_method : ℕ
class_method = 2 ^ 4

-- how a native as a method is bound: to the object, or to the class
abbrev pub for_objects : ℕ → Bool
for_objects = method_has object_method

abbrev pub for_classes : ℕ → Bool
for_classes = method_has class_method

-- a native that is a method of objects, where it is a native at all
abbrev pub is_for_objects : Option Datum → Bool
is_for_objects (Some (AMethodDescriptor c x n flags doc)) = for_objects flags
is_for_objects _ = true

-- whether a method can be called with its object before the arguments, without being bound: its class has the flag of methods, and a native is one of objects
abbrev pub is_fast : PlainWorld → PyObjectRef → Bool
is_fast w m = class_has_flag w method_descriptor (class_at w m) && is_for_objects (datum_at w m)

-- the first built-in class along a class's linearisation: its objects are objects of that
abbrev pub nearest_built_in : {K : Type 0} → Classes K → ℕ → Option ℕ
nearest_built_in t c = option_and_then (first_with (λ d. nat_lt d built_ins)) (lin t c)

-- other contents of a node

abbrev pub with_datum_in : (Datum → Datum) → List Node → ℕ → List Node
with_datum_in f ns n = with_node_changed (λ m. record m { datum = f m.datum }) ns n

-- an object with other contents
abbrev pub with_datum : PlainWorld → PyObjectRef → Datum → PlainWorld
with_datum w r d = record w { nodes = with_datum_in (λ m. d) w.nodes r.0 }

abbrev pub or_class : Option ℕ → ℕ → Option ℕ
or_class None c = Some c
or_class (Some d) c = Some d

-- a function that no class defines yet is defined by this one
abbrev pub defined_by : ℕ → Datum → Datum
defined_by c (AFunction x ps rest e d) = AFunction x ps rest e (or_class d c)
defined_by c d = d

-- the function that a value of a namespace is, or wraps
abbrev pub wrapped_function : PyObjectRef → Option Datum → PyObjectRef
wrapped_function r (Some (AClassMethod f)) = f
wrapped_function r _ = r

abbrev pub with_definer : PlainWorld → ℕ → PyObjectRef → PlainWorld
with_definer w c r = record w { nodes = with_datum_in (defined_by c) w.nodes r.0 }

-- each function among some values, or wrapped by one, that no class defines yet is defined by this class
abbrev pub with_definers : PlainWorld → ℕ → List PyObjectRef → PlainWorld
with_definers w c [] = w
with_definers w c (r ∷ rs) = with_definers (with_definer w c (wrapped_function r (datum_at w r))) c rs
