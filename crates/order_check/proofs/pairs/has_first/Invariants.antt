use Rattle.order_check.proofs.Below.{drop, has, firsts}
use Rattle.std.proofs.Common.{◌≡◌}
use Rattle.order_check.proofs.pairs.has_first.Given as goal

abbrev pub invariant-loop-pair : goal.invariant-loop-pair
invariant-loop-pair l = has (firsts (drop l.pair-index l.pairs)) l.class ≡ has (firsts l.pairs) l.class
