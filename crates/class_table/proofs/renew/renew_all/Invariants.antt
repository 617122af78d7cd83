use Rattle.class_table.proofs.Below.{ℕ, length, Some, slice_get, with_bases, Renewed, numbers, StoredClass, classes_of, IsRenewed}
use Rattle.std.proofs.Common.{◌≡◌}
use Rattle.class_table.proofs.renew.renew_all.Given as goal

abbrev pub invariant-loop-place : goal.invariant-loop-place
invariant-loop-place l = record {
  count : length l.all.items ≡ l.place-index;
  each : (j i : ℕ) (k : StoredClass) (r : Renewed) → slice_get l.places j ≡ Some i → slice_get l.change.classes.now i ≡ Some k → slice_get l.all.items j ≡ Some r → IsRenewed (with_bases (classes_of l.change.classes.now) l.change.class.0 (numbers l.change.bases.now)) k.number r;
}
