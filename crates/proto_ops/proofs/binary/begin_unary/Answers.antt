use Rattle.proto_ops.proofs.Lemmas.{no-nodes}
use Rattle.proto_ops.proofs.binary.begin_unary.Goals as goal

pub returns-in-Some-clause-safe : goal.returns-in-Some-clause-safe
returns-in-Some-clause-safe c =
    (c.requires, (c.known.ensures.holds, (rw c.new-args.ensures.items (no-nodes c.args.world.now), rw c.new.ensures.items tt)))
