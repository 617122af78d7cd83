use Rattle.order_check.proofs.Below.{drop, is_before_in, told_in, lists_past, lists_told}
use Rattle.std.proofs.Common.{◌≡◌}
use Rattle.order_check.proofs.told.is_before_in.Given as goal

abbrev pub invariant-loop-base : goal.invariant-loop-base
invariant-loop-base l =
    is_before_in l.first l.second (lists_past (told_in l.told) l.bases (drop l.base-index l.bases))
    ≡ is_before_in l.first l.second (lists_told (told_in l.told) l.bases)
