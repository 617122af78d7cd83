use Rattle.order_check.proofs.Below.{drop, stands_past, rest, told_in, lists_past, lists_told}
use Rattle.std.proofs.Common.{◌≡◌}
use Rattle.order_check.proofs.led.stands_past_left.Given as goal

abbrev pub invariant-loop-base : goal.invariant-loop-base
invariant-loop-base l =
    stands_past l.key (rest (lists_past (told_in l.told) l.bases (drop l.base-index l.bases)) l.seen)
    ≡ stands_past l.key (rest (lists_told (told_in l.told) l.bases) l.seen)
