use Rattle.order_check.proofs.Below.{[], take, drop, is_led, told_in, lists_told}
use Rattle.std.proofs.Common.{◌≡◌}
use Rattle.order_check.proofs.led.are_led.Given as goal

abbrev pub invariant-loop-place : goal.invariant-loop-place
invariant-loop-place l =
    is_led (lists_told (told_in l.told) l.bases) (take l.place l.line) (drop l.place l.line)
    ≡ is_led (lists_told (told_in l.told) l.bases) [] l.line
