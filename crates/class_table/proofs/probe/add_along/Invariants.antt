use Rattle.class_table.proofs.Below.{take, along, numbers, classes_of, is_called, AreAdded, RiseBy}
use Rattle.std.proofs.Common.{◌*◌}
use Rattle.class_table.proofs.probe.add_along.Given as goal

abbrev pub invariant-loop-place : goal.invariant-loop-place
invariant-loop-place g l = record {
  added : AreAdded (λ n. along (is_called n) (classes_of l.classes) (numbers (take l.place l.line))) l.fn.values l.values;
  steps : RiseBy 0 (69 * l.place) l.fn.steps l.steps;
}
