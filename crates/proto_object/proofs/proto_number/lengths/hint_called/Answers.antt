use Rattle.proto_object.proofs.Lemmas.{no-nodes}
use Rattle.proto_object.proofs.proto_number.lengths.hint_called.Goals as goal

pub returns-clause-safe : goal.returns-clause-safe
returns-clause-safe c = (c.requires, (rw c.new.ensures.items (no-nodes c.args.world.now), rw c.new-2.ensures.items tt))
