use Rattle.order_check.proofs.Below.{drop, are_empty, rest, told_in, lists_past, lists_told}
use Rattle.std.proofs.Common.{◌≡◌}
use Rattle.order_check.proofs.led.are_gone.Given as goal

abbrev pub invariant-loop-base : goal.invariant-loop-base
invariant-loop-base l =
    are_empty (rest (lists_past (told_in l.told) l.bases (drop l.base-index l.bases)) l.seen)
    ≡ are_empty (rest (lists_told (told_in l.told) l.bases) l.seen)
