use Rattle.order_check.proofs.Below.{[], take, drop, turned_from}
use Rattle.std.proofs.Common.{◌≡◌}
use Rattle.order_check.proofs.cycles.turned.Given as goal

abbrev pub invariant-loop-place : goal.invariant-loop-place
invariant-loop-place l = turned_from l.least (take l.place l.cycle) (drop l.place l.cycle) ≡ turned_from l.least [] l.cycle
