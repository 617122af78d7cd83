use Rattle.order_check.proofs.Below.{drop, is_distinct, keys_of}
use Rattle.std.proofs.Common.{◌≡◌}
use Rattle.order_check.proofs.forms.all_differ.Given as goal

abbrev pub invariant-loop-place : goal.invariant-loop-place
invariant-loop-place l = is_distinct (keys_of (drop l.place l.entries)) ≡ is_distinct (keys_of l.entries)
