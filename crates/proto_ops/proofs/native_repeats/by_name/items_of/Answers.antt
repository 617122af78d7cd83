use Rattle.proto_ops.proofs.Lemmas.{no-nodes}
use Rattle.proto_ops.proofs.native_repeats.by_name.items_of.Goals as goal

pub returns-in-Text-Text-clause-items : goal.returns-in-Text-Text-clause-items
returns-in-Text-Text-clause-items c = rw c.new.ensures.items (no-nodes c.args.world.now)

pub returns-in-Tuple-Tuple-clause-items : goal.returns-in-Tuple-Tuple-clause-items
returns-in-Tuple-Tuple-clause-items c = rw c.new-in-Tuple-Tuple.ensures.items (no-nodes c.args.world.now)
