use Rattle.class_table.proofs.Below.{take, Some, numbers, AreGiven}
use Rattle.class_table.proofs.collect.map_along.Given as goal

abbrev pub invariant-loop-class : goal.invariant-loop-class
invariant-loop-class g l = AreGiven (goal.F-post g l.f) (Some (numbers (take l.class-index l.line))) l.given.items
