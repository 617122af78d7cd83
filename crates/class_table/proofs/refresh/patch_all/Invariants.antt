use Rattle.class_table.proofs.Below.{ℕ, cond, length, ltb, Some, slice_get, StoredClass, classes_of, HasLines, refreshed_one}
use Rattle.std.proofs.Common.{◌≡◌}
use Rattle.class_table.proofs.refresh.patch_all.Given as goal

abbrev pub invariant-loop-place : goal.invariant-loop-place
invariant-loop-place l = record {
  count : length l.classes ≡ length l.fn.classes;
  lines : HasLines l.classes;
  same : classes_of l.classes ≡ classes_of l.fn.classes;
  at : (i : ℕ) (k : StoredClass) → slice_get l.fn.classes i ≡ Some k → slice_get l.classes i ≡ Some (cond (ltb i l.place) (refreshed_one (classes_of l.fn.classes) l.class.0 k) k);
}
