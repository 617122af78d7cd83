-- A change of classes, as a log has it.
use Rattle.class_table.specs.Below.{ℕ, List, Option, string_bytes, Vec, PyObjectRef, PyStrInterned, PyTypeRef, PyTypeFlags, Text}
use Rattle.class_table.specs.Keys.{numbers, slot_names}
use Rattle.class_table.specs.declared.class_log.change.ClassChange.{ClassChange}
use Rattle.class_table.specs.declared.class_log.change.ClassChange.TheVariants as change

-- a class that is made: its number, its name, its bases, its own attributes, what its `__slots__` name where it has some, and its flags
pub record Made : Type 0 where
  pub class : ℕ
  pub name : Text
  pub bases : List ℕ
  pub attrs : List (PyStrInterned × PyObjectRef)
  pub slots : Option (List PyStrInterned)
  pub flags : ℕ

pub data Change : Type 0 where
  -- a class is made
  Make : Made → Change
  -- an own attribute of a class is set: in its place, or last
  SetOwn : ℕ → PyStrInterned → PyObjectRef → Change
  -- an own attribute of a class is taken out
  DelOwn : ℕ → PyStrInterned → Change
  -- a class gets other bases
  SetBases : ℕ → List ℕ → Change

abbrev pub made_of : PyTypeRef → Text → List PyTypeRef → List (PyStrInterned × PyObjectRef) → Option (Vec PyStrInterned) → PyTypeFlags → Made
made_of class name bases attrs slots flags = record { class = class.0; name = name; bases = numbers bases; attrs = attrs; slots = slot_names slots; flags = flags.0 }

-- what the code's change stands for
abbrev pub change_of : ClassChange → Change
change_of (change.Make class name bases attrs slots flags) = Make (made_of class (string_bytes name) bases.items attrs slots flags)
change_of (change.SetOwn class name value) = SetOwn class.0 name value
change_of (change.DelOwn class name) = DelOwn class.0 name
change_of (change.SetBases class bases) = SetBases class.0 (numbers bases.items)
