use Rattle.proto_call.proofs.Below.{drop}
use Rattle.proto_call.proofs.ClassMake.Spaces.{Naming}
use Rattle.proto_call.proofs.class_make.namespace.namespace.Given as goal

abbrev pub invariant-loop-key : goal.invariant-loop-key
invariant-loop-key l = Naming l.fn.world l.world l.attrs (drop l.key-index l.entries) l.entries
