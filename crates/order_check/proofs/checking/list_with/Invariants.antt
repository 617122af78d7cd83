use Rattle.order_check.proofs.Below.{drop, rows, list_with}
use Rattle.std.proofs.Common.{◌≡◌}
use Rattle.order_check.proofs.checking.list_with.Given as goal

abbrev pub invariant-loop-place : goal.invariant-loop-place
invariant-loop-place l =
    list_with l.first l.second (drop l.place l.bases) (rows (drop l.place l.lists))
    ≡ list_with l.first l.second l.bases (rows l.lists)
