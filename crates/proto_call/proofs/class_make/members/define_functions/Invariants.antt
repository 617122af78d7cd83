use Rattle.proto_call.proofs.Below.{drop}
use Rattle.proto_call.proofs.ClassMake.Making.{Defining}
use Rattle.proto_call.proofs.class_make.members.define_functions.Given as goal

abbrev pub invariant-loop-value : goal.invariant-loop-value
invariant-loop-value l = Defining l.fn.world l.world l.class (drop l.value-index l.values) l.values
