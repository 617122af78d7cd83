use Rattle.shared_vm.proofs.Below.{length, AllReady, session_trees}
use Rattle.std.proofs.Common.{◌≡◌}
use Rattle.shared_vm.proofs.shared_run.crew.introduce.Given as goal

abbrev pub invariant-loop-seat : goal.invariant-loop-seat
invariant-loop-seat l = record {
  same : l.first ≡ l.initial.first;
  len : length l.crew.items ≡ length l.yielded;
  ready : AllReady l.vm.id l.initial.first.seen (session_trees l.fn.sessions.items) l.crew.items;
}
