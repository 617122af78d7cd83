use Rattle.host_tests.proofs.Below.{IsFree}
use Rattle.host_tests.proofs.views.look.Given as goal

abbrev pub invariant-loop-command : goal.invariant-loop-command
invariant-loop-command g l = IsFree l.vm.id l.seat
