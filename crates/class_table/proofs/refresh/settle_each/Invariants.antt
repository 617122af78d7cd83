use Rattle.class_table.proofs.Below.{get_or, set, StoredClass, classes_of, HasLines}
use Rattle.std.proofs.Common.{◌≡◌}
use Rattle.class_table.proofs.Refreshed.{part}
use Rattle.class_table.proofs.refresh.settle_each.Given as goal

abbrev pub invariant-loop-place : goal.invariant-loop-place
invariant-loop-place l = record {
  lines : HasLines l.classes;
  is : (d : StoredClass) → l.classes ≡ set l.fn.classes l.at (part (classes_of l.fn.classes) l.place (get_or l.fn.classes l.at d));
}
