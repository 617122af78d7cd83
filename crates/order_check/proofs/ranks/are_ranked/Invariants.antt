use Rattle.order_check.proofs.Below.{drop, known_in, are_ranked}
use Rattle.std.proofs.Common.{◌≡◌}
use Rattle.order_check.proofs.ranks.are_ranked.Given as goal

abbrev pub invariant-loop-base : goal.invariant-loop-base
invariant-loop-base l = are_ranked (known_in l.entries l.ranks) (drop l.base-index l.bases) ≡ are_ranked (known_in l.entries l.ranks) l.bases
