use Rattle.shared_example.proofs.Below.{IsFree}
use Rattle.shared_example.proofs.seats.add_often.Given as goal

abbrev pub invariant-loop : goal.invariant-loop
invariant-loop g l = IsFree l.vm.id l.adder.seat
