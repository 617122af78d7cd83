-- Everything that is kept is what its definition says, and the classes are sound.
use Rattle.class_table.specs.Below.{ℕ, true, List, Some, slice_get, All, AreNamesDistinct, lin, subclasses, is_ascending, base, solid, place_count, entries, AreSound, natives_of}
use Rattle.std.specs.Prelude.{◌≡◌}
use Rattle.class_table.specs.Keys.{table_keys}
use Rattle.class_table.specs.Stored.{StoredClass, classes_of}

-- the numbers ascend, and each class's linearisation is the one that is kept
pub record HasLines (kept : List StoredClass) : Type 0 where
  pub ascending : is_ascending (classes_of kept) ≡ true
  pub mro : (i : ℕ) (k : StoredClass) → slice_get kept i ≡ Some k → lin (classes_of kept) k.number ≡ Some k.mro

pub record IsCoherent (kept : List StoredClass) : Type 0 where
  pub mro : (i : ℕ) (k : StoredClass) → slice_get kept i ≡ Some k → lin (classes_of kept) k.number ≡ Some k.mro
  pub slots : (i : ℕ) (k : StoredClass) → slice_get kept i ≡ Some k → k.slots ≡ entries table_keys natives_of (classes_of kept) k.number
  pub base : (i : ℕ) (k : StoredClass) → slice_get kept i ≡ Some k → base (classes_of kept) k.number ≡ k.base
  pub solid : (i : ℕ) (k : StoredClass) → slice_get kept i ≡ Some k → solid (classes_of kept) k.number ≡ k.solid
  pub subclasses : (i : ℕ) (k : StoredClass) → slice_get kept i ≡ Some k → k.subclasses ≡ subclasses (classes_of kept) k.number
  pub places : (i : ℕ) (k : StoredClass) → slice_get kept i ≡ Some k → place_count (classes_of kept) k.number ≡ Some k.places
  pub sound : AreSound (classes_of kept)
  -- in each class no own attribute's name stands twice
  pub attrs : All (λ k. AreNamesDistinct k.attrs) (classes_of kept)
