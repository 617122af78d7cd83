use Rattle.proto_attr.proofs.Lemmas.{add-one, collecting-step}
use Rattle.proto_attr.proofs.native_objects.rebase.all_classes.Goals as goal

pub loop-node-preserved : goal.loop-node-preserved
loop-node-preserved c =
    rw add-one (collecting-step c.args.world.now c.loop-node.classes.items c.loop-node.node-index c.args.nodes.now (record { 0 = 0 }) c.loop-node.invariant c.in-Some.class c.class_number.result c.push.new.self.items c.loop-node-test.true c.class_number.ensures.number c.in-Some.is c.in_ok-push-in-Some.ensures.items c.in-Some.ensures.class)
