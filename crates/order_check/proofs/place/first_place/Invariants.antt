use Rattle.order_check.proofs.Below.{drop, Includes, keys_of}
use Rattle.order_check.proofs.place.first_place.Given as goal

abbrev pub invariant-loop-place : goal.invariant-loop-place
invariant-loop-place l = Includes (keys_of l.entries) l.key → Includes (keys_of (drop l.place l.entries)) l.key
