use Rattle.order_check.proofs.Below.{drop, have_ranks}
use Rattle.std.proofs.Common.{◌≡◌}
use Rattle.order_check.proofs.ranks.have_ranks.Given as goal

abbrev pub invariant-loop-rank : goal.invariant-loop-rank
invariant-loop-rank l = have_ranks (drop l.rank-index l.ranks) ≡ have_ranks l.ranks
