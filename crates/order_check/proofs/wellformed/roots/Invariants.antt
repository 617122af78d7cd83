use Rattle.order_check.proofs.Below.{drop, roots}
use Rattle.std.proofs.Common.{◌≡◌, ◌+◌, ◌≤◌}
use Rattle.order_check.proofs.wellformed.roots.Given as goal

abbrev pub invariant-loop-entry : goal.invariant-loop-entry
invariant-loop-entry l = record { within : l.count ≤ l.entry-index; all : l.count + roots (drop l.entry-index l.entries) ≡ roots l.entries }
