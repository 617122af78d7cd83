use Rattle.proto_attr.proofs.NativeObjects.Collected.{Collecting}
use Rattle.proto_attr.proofs.native_objects.rebase.all_classes.Given as goal

abbrev pub invariant-loop-node : goal.invariant-loop-node
invariant-loop-node l = Collecting l.world l.classes.items l.node-index l.nodes
