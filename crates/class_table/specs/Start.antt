-- The classes of a new world, by the numbers of names and of objects: the built-in classes with their own attributes. In order, each attribute holds the next new object, past the fixed ones, or None, which is one of those.
use Rattle.class_table.specs.Below.{ℕ, suc, true, fold, Attr, NoHash, BuiltIn, Known, PyStrInterned, is_same_name, all_built_ins, fixed_none, fixed_node_count, number_of, own_attrs, Classes, is_class, with_class_attr, built_in_classes}
use Rattle.std.specs.Prelude.{◌≡◌}
use Rattle.py_node.specs.BuiltIns.{place_of}

-- classes, and the number of the next new object
abbrev pub Numbered : Type 0
Numbered = Classes PyStrInterned × ℕ

-- the number of the object that an own attribute holds
abbrev pub value_number : ℕ → Attr → ℕ
value_number n NoHash = fixed_none
value_number n a = n

-- the number of the next new object after it
abbrev pub number_past : ℕ → Attr → ℕ
number_past n NoHash = n
number_past n a = suc n

-- an own attribute under its name in its class
unfoldable pub with_own : BuiltIn → Numbered → Known × Attr → Numbered
with_own b s a = (with_class_attr is_same_name s.0 (place_of b) (record { 0 = number_of a.0 }) (record { 0 = value_number s.1 a.1 }), number_past s.1 a.1)

-- the own attributes of a class, in order
abbrev pub with_all_own : Numbered → BuiltIn → Numbered
with_all_own s b = fold (with_own b) s (own_attrs b)

-- those of all built-in classes
abbrev pub with_each_own : Numbered → Numbered
with_each_own s = fold with_all_own s all_built_ins

unfoldable pub start_classes : Classes PyStrInterned
start_classes = (with_each_own (built_in_classes, fixed_node_count)).0

-- the built-in classes are there
abbrev pub HasBuiltIns : Classes PyStrInterned → Type 0
HasBuiltIns t = (b : BuiltIn) → is_class t (place_of b) ≡ true
