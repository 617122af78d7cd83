use Rattle.order_check.proofs.Below.{take, rows}
use Rattle.std.proofs.Common.{◌≡◌}
use Rattle.order_check.proofs.left.copy.Given as goal

abbrev pub invariant-loop-list : goal.invariant-loop-list
invariant-loop-list l = rows l.copied.items ≡ rows (take l.list-index l.lists)
