use Rattle.order_check.proofs.Below.{take, numbers}
use Rattle.std.proofs.Common.{◌≡◌}
use Rattle.order_check.proofs.least.references.Given as goal

abbrev pub invariant-loop-key : goal.invariant-loop-key
invariant-loop-key l = numbers l.found.items ≡ take l.key-index l.keys
