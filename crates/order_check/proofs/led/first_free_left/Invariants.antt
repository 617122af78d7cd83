use Rattle.order_check.proofs.Below.{drop, first_free, rest, told_in, lists_past, lists_told}
use Rattle.std.proofs.Common.{◌≡◌}
use Rattle.order_check.proofs.led.first_free_left.Given as goal

abbrev pub invariant-loop-base : goal.invariant-loop-base
invariant-loop-base l =
    first_free (rest (lists_told (told_in l.told) l.bases) l.seen) (rest (lists_past (told_in l.told) l.bases (drop l.base-index l.bases)) l.seen)
    ≡ first_free (rest (lists_told (told_in l.told) l.bases) l.seen) (rest (lists_told (told_in l.told) l.bases) l.seen)
