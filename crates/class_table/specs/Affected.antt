-- Where other bases of a class may change what is kept of a class, but for its slots.
use Rattle.class_table.specs.Below.{ℕ, true, List, Some, slice_get, length, has, Includes, Distinct}
use Rattle.std.specs.Prelude.{◌≡◌, ◌<◌}
use Rattle.class_table.specs.Stored.{StoredClass}

-- the places of the class and of all that derive from it, of its bases of now and of those that it is to have, each once
pub record AreAffected (kept : List StoredClass) (c : ℕ) (bs : List ℕ) (places : List ℕ) : Type 0 where
  pub distinct : Distinct places
  pub within : (i : ℕ) → Includes places i → i < length kept
  pub derived : (i : ℕ) (k : StoredClass) → slice_get kept i ≡ Some k → has k.mro c ≡ true → Includes places i
  pub later : (i : ℕ) (k : StoredClass) → slice_get kept i ≡ Some k → Includes bs k.number → Includes places i
  pub earlier : (i j : ℕ) (k m : StoredClass) → slice_get kept i ≡ Some k → slice_get kept j ≡ Some m → m.number ≡ c → Includes m.bases k.number → Includes places i
