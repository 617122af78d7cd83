-- What a slot's entry asks, and tests of an object's class, which rows of protocols share.
use Rattle.row_kit.specs.Below.{ℕ, Bool, false, eqb, List, [], Option, Some, None, PyObjectRef, SlotEntry, Native, Known, known_text, the_tuple, the_list, native_task, PlainWorld, DoSpecial, PlainTask, ToAttribute, class_at}
use Rattle.std.specs.Prelude.{◌||◌, ◌∷◌}

-- what a slot's entry asks: its native, or the special method, of an object and what follows it
abbrev pub entered : SlotEntry → Known → PyObjectRef → List PyObjectRef → PlainTask
entered (Native n) x o args = native_task n (o ∷ args) []
entered _ x o args = ToAttribute (DoSpecial o (known_text x) args [])

abbrev pub is_class_of : Option ℕ → ℕ → Bool
is_class_of None c = false
is_class_of (Some d) c = eqb d c

-- whether an object's class is just this one
abbrev pub is_exactly : PlainWorld → PyObjectRef → ℕ → Bool
is_exactly w o c = is_class_of (class_at w o) c

-- a tuple or a list and no other object: its items are read at once
abbrev pub is_plain : PlainWorld → PyObjectRef → Bool
is_plain w o = is_exactly w o the_tuple || is_exactly w o the_list
