use Rattle.order_check.proofs.Below.{drop, has, keys_of}
use Rattle.std.proofs.Common.{◌≡◌}
use Rattle.order_check.proofs.forms.has_key.Given as goal

abbrev pub invariant-loop-entry : goal.invariant-loop-entry
invariant-loop-entry l = has (keys_of (drop l.entry-index l.entries)) l.key ≡ has (keys_of l.entries) l.key
