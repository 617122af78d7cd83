use Rattle.class_table.proofs.Below.{get_or, set, StoredClass, classes_of, HasLines, AreHeapsSettled}
use Rattle.std.proofs.Common.{◌≡◌}
use Rattle.class_table.proofs.Refreshed.{part}
use Rattle.class_table.proofs.settle.settle_static.Given as goal

abbrev pub invariant-loop-place : goal.invariant-loop-place
invariant-loop-place l = record {
  lines : HasLines l.classes;
  heaps : AreHeapsSettled l.classes;
  is : (d : StoredClass) → l.classes ≡ set l.fn.classes l.at (part (classes_of l.fn.classes) l.place (get_or l.fn.classes l.at d));
}
