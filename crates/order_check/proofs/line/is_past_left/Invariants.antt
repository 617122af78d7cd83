use Rattle.order_check.proofs.Below.{drop, past}
use Rattle.std.proofs.Common.{◌≡◌}
use Rattle.order_check.proofs.line.is_past_left.Given as goal

abbrev pub invariant-loop-place : goal.invariant-loop-place
invariant-loop-place l = past l.seen (drop l.place l.list) ≡ past l.seen l.list
