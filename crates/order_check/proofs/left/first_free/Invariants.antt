use Rattle.order_check.proofs.Below.{drop, first_free, rows}
use Rattle.std.proofs.Common.{◌≡◌}
use Rattle.order_check.proofs.left.first_free.Given as goal

abbrev pub invariant-loop-list : goal.invariant-loop-list
invariant-loop-list l = first_free (rows l.lists) (rows (drop l.list-index l.lists)) ≡ first_free (rows l.lists) (rows l.lists)
