use Rattle.order_check.proofs.Below.{AreEarlierTo}
use Rattle.order_check.proofs.forms.are_earlier.Given as goal

abbrev pub invariant-loop-place : goal.invariant-loop-place
invariant-loop-place l = AreEarlierTo l.entries l.place
