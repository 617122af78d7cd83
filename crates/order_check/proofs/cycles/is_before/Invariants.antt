use Rattle.order_check.proofs.Below.{drop, is_before}
use Rattle.std.proofs.Common.{◌≡◌}
use Rattle.order_check.proofs.cycles.is_before.Given as goal

abbrev pub invariant-loop-place : goal.invariant-loop-place
invariant-loop-place l = is_before l.first l.second (drop l.place l.list) ≡ is_before l.first l.second l.list
