use Rattle.class_table.proofs.Below.{drop, is_distinct, numbers}
use Rattle.std.proofs.Common.{◌≡◌}
use Rattle.class_table.proofs.rebase.is_distinct.Given as goal

abbrev pub invariant-loop-i : goal.invariant-loop-i
invariant-loop-i l = is_distinct (numbers (drop l.i l.bases)) ≡ is_distinct (numbers l.bases)
