use Rattle.order_check.proofs.Below.{drop, stands_past, rows}
use Rattle.std.proofs.Common.{◌≡◌}
use Rattle.order_check.proofs.left.stands_past.Given as goal

abbrev pub invariant-loop-list : goal.invariant-loop-list
invariant-loop-list l = stands_past l.key (rows (drop l.list-index l.lists)) ≡ stands_past l.key (rows l.lists)
