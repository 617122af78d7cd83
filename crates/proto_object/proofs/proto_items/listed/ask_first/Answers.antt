use Rattle.proto_object.proofs.Lemmas.{no-nodes, first-asked}
use Rattle.proto_object.proofs.proto_items.listed.ask_first.Goals as goal

pub returns-clause-goes : goal.returns-clause-goes
returns-clause-goes c =
    rw c.ask_next.ensures (first-asked c.args.world.now c.args.iterator c.new.result c.new.ensures.items)

pub returns-clause-safe : goal.returns-clause-safe
returns-clause-safe c =
    let w = c.args.world.now in
    rw (c.ask_next.ensures, c.new.ensures.items) (c.requires, (c.requires, (no-nodes w, tt)))
