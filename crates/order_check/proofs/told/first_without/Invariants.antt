use Rattle.order_check.proofs.Below.{drop, first_without, told_in}
use Rattle.std.proofs.Common.{◌≡◌}
use Rattle.order_check.proofs.told.first_without.Given as goal

abbrev pub invariant-loop-base : goal.invariant-loop-base
invariant-loop-base l = first_without (told_in l.told) (drop l.base-index l.bases) ≡ first_without (told_in l.told) l.bases
