use Rattle.proto_call.proofs.ClassMake.Descriptors.{Membering}
use Rattle.proto_call.proofs.class_make.members.add_members.Given as goal

abbrev pub invariant-loop-i : goal.invariant-loop-i
invariant-loop-i l = Membering l.fn.world l.world l.class l.first l.i l.names
