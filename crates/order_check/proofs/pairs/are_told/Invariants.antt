use Rattle.order_check.proofs.Below.{drop, told_in, lists_told, are_told}
use Rattle.std.proofs.Common.{◌≡◌}
use Rattle.order_check.proofs.pairs.are_told.Given as goal

abbrev pub invariant-loop-place : goal.invariant-loop-place
invariant-loop-place l =
    are_told l.bases (lists_told (told_in l.told) l.bases) l.last (drop l.place l.pairs)
    ≡ are_told l.bases (lists_told (told_in l.told) l.bases) l.last l.pairs
