use Rattle.order_check.proofs.Below.{drop, keys_of, all_within}
use Rattle.std.proofs.Common.{◌≡◌}
use Rattle.order_check.proofs.wellformed.all_there.Given as goal

abbrev pub invariant-loop-entry : goal.invariant-loop-entry
invariant-loop-entry l = all_within (keys_of l.entries) (drop l.entry-index l.entries) ≡ all_within (keys_of l.entries) l.entries
