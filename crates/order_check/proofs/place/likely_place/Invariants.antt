use Rattle.order_check.proofs.Below.{length}
use Rattle.std.proofs.Common.{◌-◌, ◌≤◌}
use Rattle.order_check.proofs.place.likely_place.Given as goal

abbrev pub invariant-loop-low : goal.invariant-loop-low
invariant-loop-low l = l.high ≤ length l.entries

abbrev pub decreases-loop-low : goal.decreases-loop-low
decreases-loop-low l = l.high - l.low
