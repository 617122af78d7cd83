-- What the table keeps of a class.
use Rattle.class_table.specs.Below.{ℕ, Bool, List, Option, Some, map, slice_get, option_map, PyStrInterned, PyObjectRef, SlotEntry, Text, Class, Classes}
use Rattle.std.specs.Prelude.{◌≡◌}

pub record StoredClass : Type 0 where
  pub name : Text
  pub number : ℕ
  pub bases : List ℕ
  pub attrs : List (PyStrInterned × PyObjectRef)
  pub members : List PyStrInterned
  pub flags : ℕ
  pub brings : Bool
  pub mro : List ℕ
  pub slots : List (Option SlotEntry)
  pub base : Option ℕ
  pub solid : Option ℕ
  pub subclasses : List ℕ
  pub places : ℕ

-- the class itself, without what follows from it
abbrev pub class_of : StoredClass → Class PyStrInterned
class_of k = record { name = k.name; number = k.number; bases = k.bases; attrs = k.attrs; members = k.members; flags = k.flags; brings = k.brings }

abbrev pub classes_of : List StoredClass → Classes PyStrInterned
classes_of kept = map class_of kept

-- the number of the class at a place
abbrev pub number_at : List StoredClass → ℕ → Option ℕ
number_at kept i = option_map (λ k. k.number) (slice_get kept i)

-- what is kept of a class, by its number
pub record IsHere (kept : List StoredClass) (c : ℕ) (k : StoredClass) : Type 0 where
  pub place : ℕ
  pub at : slice_get kept place ≡ Some k
  pub number : k.number ≡ c
