use Rattle.order_check.proofs.Below.{drop, has}
use Rattle.std.proofs.Common.{◌≡◌}
use Rattle.order_check.proofs.left.has.Given as goal

abbrev pub invariant-loop-other : goal.invariant-loop-other
invariant-loop-other l = has (drop l.other-index l.list) l.key ≡ has l.list l.key
