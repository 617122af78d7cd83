use Rattle.proto_call.proofs.Lemmas.{AreNodes, node-at}
use Rattle.proto_call.proofs.class_make.members.define_functions.Goals as goal

pub define_value-requires-clause-value : goal.define_value-requires-clause-value
define_value-requires-clause-value c =
    node-at c.loop-value.world c.args.values.now c.loop-value.value-index (record { 0 = 0 }) c.loop-value-test.true (c.loop-value.invariant.grows.still (AreNodes c.args.values.now) c.requires.values)
