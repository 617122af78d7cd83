use Rattle.proto_call.proofs.Lemmas.{add-one, node-at, classing-step}
use Rattle.proto_call.proofs.class_make.bases.classes_of.Goals as goal

pub class_number-requires : goal.class_number-requires
class_number-requires c =
    node-at c.args.world.now c.args.nodes.now c.loop-node.node-index (record { 0 = 0 }) c.loop-node-test.true c.requires

pub returns-in-None-clause-node : goal.returns-in-None-clause-node
returns-in-None-clause-node c =
    node-at c.args.world.now c.args.nodes.now c.loop-node.node-index (record { 0 = 0 }) c.loop-node-test.true c.requires

pub loop-node-preserved : goal.loop-node-preserved
loop-node-preserved c =
    rw add-one (classing-step c.args.world.now c.loop-node.classes.items c.loop-node.node-index c.args.nodes.now (record { 0 = 0 }) c.loop-node.invariant c.in-Some.class c.class_number.result c.push.new.self.items c.loop-node-test.true c.class_number.ensures.number c.in-Some.is c.in_ok-push-in-Some.ensures.items c.in-Some.ensures.class c.in-Some.ensures.holding)
