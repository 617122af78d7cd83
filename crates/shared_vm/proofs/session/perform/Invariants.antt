use Rattle.shared_vm.proofs.Below.{trees_in, Performed, Stays}
use Rattle.shared_vm.proofs.session.perform.Given as goal

abbrev pub invariant-loop-command : goal.invariant-loop-command
invariant-loop-command g l = Stays l.vm.id l.initial.seat l.seat × Performed l.budget (trees_in l.yielded) l.initial.seat l.seat
