use Rattle.order_check.proofs.Below.{drop, is_distinct, firsts}
use Rattle.std.proofs.Common.{◌≡◌}
use Rattle.order_check.proofs.pairs.are_different.Given as goal

abbrev pub invariant-loop-place : goal.invariant-loop-place
invariant-loop-place l = is_distinct (firsts (drop l.place l.pairs)) ≡ is_distinct (firsts l.pairs)
