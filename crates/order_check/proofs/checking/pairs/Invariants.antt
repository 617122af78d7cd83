use Rattle.order_check.proofs.Below.{drop, rows, first_or, pairs_to, pairs_of}
use Rattle.std.proofs.Common.{◌≡◌, ◌++◌}
use Rattle.order_check.proofs.checking.pairs.Given as goal

abbrev pub invariant-loop-place : goal.invariant-loop-place
invariant-loop-place l =
    l.found.items ++ pairs_to l.bases (rows l.lists) (first_or 0 l.cycle) (drop l.place l.cycle)
    ≡ pairs_of l.bases (rows l.lists) l.cycle
