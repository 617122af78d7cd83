use Rattle.proto_object.proofs.Lemmas.{no-nodes}
use Rattle.proto_object.proofs.proto_iter.iteration.begin_items.Goals as goal

pub returns-clause-safe : goal.returns-clause-safe
returns-clause-safe c = (c.requires, (c.requires, (rw c.new-items.ensures.items (no-nodes c.args.world.now), tt)))
