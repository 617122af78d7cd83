use Rattle.proto_attr.proofs.Lemmas.{keyword-holds}
use Rattle.proto_attr.proofs.native_objects.property.with_parts.Goals as goal

pub with_part-requires-clause-name : goal.with_part-requires-clause-name
with_part-requires-clause-name c =
    (keyword-holds c.args.world.now c.args.kw.now c.loop-pair.pair-index (record { 0 = 0 }, record { 0 = 0 }) c.loop-pair-test.true c.requires.kw).0

pub with_part-requires-clause-value : goal.with_part-requires-clause-value
with_part-requires-clause-value c =
    (keyword-holds c.args.world.now c.args.kw.now c.loop-pair.pair-index (record { 0 = 0 }, record { 0 = 0 }) c.loop-pair-test.true c.requires.kw).1
