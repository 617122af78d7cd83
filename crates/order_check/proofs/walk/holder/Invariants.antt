use Rattle.order_check.proofs.Below.{drop, rows, holder}
use Rattle.std.proofs.Common.{◌≡◌}
use Rattle.order_check.proofs.walk.holder.Given as goal

abbrev pub invariant-loop-list : goal.invariant-loop-list
invariant-loop-list l = holder l.key (rows (drop l.list-index l.lists)) ≡ holder l.key (rows l.lists)
