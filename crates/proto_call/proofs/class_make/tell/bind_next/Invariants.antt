use Rattle.proto_call.proofs.ClassMake.Telling.{Skipping}
use Rattle.proto_call.proofs.class_make.tell.bind_next.Given as goal

abbrev pub invariant-loop-i : goal.invariant-loop-i
invariant-loop-i l = Skipping l.world l.telling l.hooks.items l.i
