use Rattle.order_check.proofs.Below.{drop, heads, rows}
use Rattle.std.proofs.Common.{◌≡◌}
use Rattle.order_check.proofs.cycles.found_in.Given as goal

abbrev pub invariant-loop-list : goal.invariant-loop-list
invariant-loop-list l = heads (rows (drop l.list-index l.lists)) ≡ heads (rows l.lists)
