use Rattle.order_check.proofs.Below.{drop, least_from}
use Rattle.std.proofs.Common.{◌≡◌}
use Rattle.order_check.proofs.cycles.least.Given as goal

abbrev pub invariant-loop-key : goal.invariant-loop-key
invariant-loop-key l = least_from l.least (drop l.key-index l.cycle) ≡ least_from l.first l.cycle
