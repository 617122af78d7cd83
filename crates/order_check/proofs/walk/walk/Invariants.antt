use Rattle.order_check.proofs.Below.{[], length, rows, walk}
use Rattle.std.proofs.Common.{◌≡◌, ◌-◌}
use Rattle.order_check.proofs.walk.walk.Given as goal

abbrev pub invariant-loop-step : goal.invariant-loop-step
invariant-loop-step l = walk (length l.lists - l._step) (rows l.lists) l.seen.items l.next ≡ walk (length l.lists) (rows l.lists) [] l.first
