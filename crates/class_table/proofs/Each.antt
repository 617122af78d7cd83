-- Classes that are kept are coherent where each is, one by one.
use Rattle.class_table.proofs.Below.{ℕ, List, Some, slice_get, All, PyStrInterned, AreNamesDistinct, Classes, lin, subclasses, base, solid, place_count, entries, AreSound, natives_of, table_keys, StoredClass, classes_of, IsCoherent}
use Rattle.std.proofs.Common.{◌≡◌}

-- what is kept of a class is so of these classes
pub record IsSoOf (t : Classes PyStrInterned) (k : StoredClass) : Type 0 where
  pub mro : lin t k.number ≡ Some k.mro
  pub slots : k.slots ≡ entries table_keys natives_of t k.number
  pub base : base t k.number ≡ k.base
  pub solid : solid t k.number ≡ k.solid
  pub subclasses : k.subclasses ≡ subclasses t k.number
  pub places : place_count t k.number ≡ Some k.places

pub each-of : (kept : List StoredClass) (ok : IsCoherent kept) (i : ℕ) (k : StoredClass) → slice_get kept i ≡ Some k → IsSoOf (classes_of kept) k
each-of kept ok i k e = record {
  mro = ok.mro i k e;
  slots = ok.slots i k e;
  base = ok.base i k e;
  solid = ok.solid i k e;
  subclasses = ok.subclasses i k e;
  places = ok.places i k e;
}

pub coherent-each : (kept : List StoredClass) → ((i : ℕ) (k : StoredClass) → slice_get kept i ≡ Some k → IsSoOf (classes_of kept) k) → AreSound (classes_of kept) → All (λ k. AreNamesDistinct k.attrs) (classes_of kept) → IsCoherent kept
coherent-each kept each sound attrs = record {
  mro = λ i k e. (each i k e).mro;
  slots = λ i k e. (each i k e).slots;
  base = λ i k e. (each i k e).base;
  solid = λ i k e. (each i k e).solid;
  subclasses = λ i k e. (each i k e).subclasses;
  places = λ i k e. (each i k e).places;
  sound = sound;
  attrs = attrs;
}
