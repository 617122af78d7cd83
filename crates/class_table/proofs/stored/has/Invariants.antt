use Rattle.class_table.proofs.Below.{drop, has, numbers}
use Rattle.std.proofs.Common.{◌≡◌}
use Rattle.class_table.proofs.stored.has.Given as goal

abbrev pub invariant-loop-other : goal.invariant-loop-other
invariant-loop-other l = has (numbers (drop l.other-index l.classes)) l.class.0 ≡ has (numbers l.classes) l.class.0
