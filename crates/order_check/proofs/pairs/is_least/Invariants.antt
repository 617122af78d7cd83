use Rattle.order_check.proofs.Below.{drop, firsts, is_least}
use Rattle.std.proofs.Common.{◌≡◌}
use Rattle.order_check.proofs.pairs.is_least.Given as goal

abbrev pub invariant-loop-pair : goal.invariant-loop-pair
invariant-loop-pair l = is_least l.class (firsts (drop l.pair-index l.pairs)) ≡ is_least l.class (firsts l.pairs)
