use Rattle.class_table.proofs.Below.{ℕ, length, Some, slice_get, StoredClass, Ranked}
use Rattle.std.proofs.Common.{◌≡◌}
use Rattle.class_table.proofs.descendants.measured.Given as goal

abbrev pub invariant-loop-place : goal.invariant-loop-place
invariant-loop-place l = record {
  count : length l.ranked.items ≡ l.place-index;
  at : (j : ℕ) (r : Ranked) → slice_get l.ranked.items j ≡ Some r → (slice_get l.places j ≡ Some r.place) × ((k : StoredClass) → slice_get l.classes r.place ≡ Some k → r.length ≡ length k.mro);
}
