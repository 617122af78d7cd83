use Rattle.shared_example.proofs.Below.{IsFree}
use Rattle.shared_example.proofs.seats.execute_script.Given as goal

abbrev pub invariant-loop-command : goal.invariant-loop-command
invariant-loop-command g l = IsFree l.vm.id l.seat
