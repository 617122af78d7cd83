-- Slots that are found anew.
use Rattle.class_table.specs.Below.{ℕ, true, false, cond, List, Some, length, slice_get, PyStrInterned, SlotId, all_slots, place_of, slot_count, has, Classes, is_name_of, entry, entries, natives_of}
use Rattle.std.specs.Prelude.{◌≡◌, ◌≤◌, ◌<◌}
use Rattle.class_table.specs.Keys.{table_keys}
use Rattle.class_table.specs.Stored.{StoredClass, classes_of}

-- a name is no slot's from one place on and before another
abbrev pub NoneNamed : PyStrInterned → ℕ → ℕ → Type 0
NoneNamed name first past = (i : ℕ) (s : SlotId) → first ≤ i → i < past → slice_get all_slots i ≡ Some s → is_name_of table_keys s name ≡ false

-- every slot but those of a name holds what its definition says
pub record IsNear (t : Classes PyStrInterned) (name : PyStrInterned) (k : StoredClass) : Type 0 where
  pub count : length k.slots ≡ slot_count
  pub others : (s : SlotId) → is_name_of table_keys s name ≡ false → slice_get k.slots (place_of s) ≡ Some (entry table_keys natives_of t k.number s)

-- the same of each class that has a class along its linearisation
abbrev pub AreNear : PyStrInterned → ℕ → List StoredClass → Type 0
AreNear name class kept = (i : ℕ) (k : StoredClass) → slice_get kept i ≡ Some k → has k.mro class ≡ true → IsNear (classes_of kept) name k

-- a class with the slots of its definition
abbrev pub settled : Classes PyStrInterned → StoredClass → StoredClass
settled t k = record k { slots = entries table_keys natives_of t k.number }

-- the slots are found anew where the class is along the linearisation
abbrev pub refreshed_one : Classes PyStrInterned → ℕ → StoredClass → StoredClass
refreshed_one t class k = cond (has k.mro class) (settled t k) k

pub record IsRefreshed (class : ℕ) (old new : List StoredClass) : Type 0 where
  pub count : length new ≡ length old
  pub at : (i : ℕ) (k : StoredClass) → slice_get old i ≡ Some k → slice_get new i ≡ Some (refreshed_one (classes_of old) class k)
