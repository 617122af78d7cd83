use Rattle.order_check.proofs.Below.{drop, list_with, told_in, lists_past, lists_told}
use Rattle.std.proofs.Common.{◌≡◌}
use Rattle.order_check.proofs.told.list_with.Given as goal

abbrev pub invariant-loop-base : goal.invariant-loop-base
invariant-loop-base l =
    list_with l.first l.second (drop l.base-index l.bases) (lists_past (told_in l.told) l.bases (drop l.base-index l.bases))
    ≡ list_with l.first l.second l.bases (lists_told (told_in l.told) l.bases)
