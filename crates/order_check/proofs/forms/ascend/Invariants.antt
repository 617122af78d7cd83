use Rattle.order_check.proofs.Below.{keys_of, AreAscending}
use Rattle.order_check.proofs.forms.ascend.Given as goal

abbrev pub invariant-loop-place : goal.invariant-loop-place
invariant-loop-place l = AreAscending (keys_of l.entries) l.place
