use Rattle.proto_object.proofs.Lemmas.{no-nodes}
use Rattle.proto_object.proofs.proto_number.asked.special.Goals as goal

pub returns-clause-holds : goal.returns-clause-holds
returns-clause-holds c =
    (c.requires, (c.known.ensures.holds, (rw c.new-args.ensures.items (no-nodes c.args.world.now), rw c.new-kw.ensures.items tt)))
