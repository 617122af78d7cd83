use Rattle.order_check.proofs.Below.{drop, is_within, keys_of}
use Rattle.std.proofs.Common.{◌≡◌}
use Rattle.order_check.proofs.wellformed.are_keys.Given as goal

abbrev pub invariant-loop-base : goal.invariant-loop-base
invariant-loop-base l = is_within (drop l.base-index l.bases) (keys_of l.entries) ≡ is_within l.bases (keys_of l.entries)
