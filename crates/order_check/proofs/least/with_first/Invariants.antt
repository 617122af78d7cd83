use Rattle.order_check.proofs.Below.{take, numbers}
use Rattle.std.proofs.Common.{◌≡◌, ◌∷◌}
use Rattle.order_check.proofs.least.with_first.Given as goal

abbrev pub invariant-loop-class : goal.invariant-loop-class
invariant-loop-class l = l.order.items ≡ l.key ∷ numbers (take l.class-index l.rest)
