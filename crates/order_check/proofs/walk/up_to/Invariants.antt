use Rattle.order_check.proofs.Below.{drop, up_to}
use Rattle.std.proofs.Common.{◌≡◌, ◌++◌}
use Rattle.order_check.proofs.walk.up_to.Given as goal

abbrev pub invariant-loop-other : goal.invariant-loop-other
invariant-loop-other l = up_to l.key l.list ≡ l.found.items ++ up_to l.key (drop l.other-index l.list)
