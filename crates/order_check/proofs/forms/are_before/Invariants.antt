use Rattle.order_check.proofs.Below.{take, keys_of, AreBefore}
use Rattle.order_check.proofs.forms.are_before.Given as goal

abbrev pub invariant-loop-base : goal.invariant-loop-base
invariant-loop-base l = AreBefore (keys_of l.entries) l.place (take l.base-index l.bases)
