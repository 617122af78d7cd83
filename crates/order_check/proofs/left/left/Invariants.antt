use Rattle.order_check.proofs.Below.{length, members, rows, left}
use Rattle.std.proofs.Common.{◌≡◌}
use Rattle.order_check.proofs.left.left.Given as goal

abbrev pub invariant-loop-next : goal.invariant-loop-next
invariant-loop-next l = left (rows l.rest.items) ≡ left (rows l.lists)

abbrev pub decreases-loop-next : goal.decreases-loop-next
decreases-loop-next l = length (members (rows l.rest.items))
