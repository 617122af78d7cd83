use Rattle.proto_call.proofs.ClassMake.EachBase.{Classing}
use Rattle.proto_call.proofs.class_make.bases.classes_of.Given as goal

abbrev pub invariant-loop-node : goal.invariant-loop-node
invariant-loop-node l = Classing l.world l.classes.items l.node-index l.nodes
