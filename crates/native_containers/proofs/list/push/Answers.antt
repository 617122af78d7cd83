use Rattle.native_containers.proofs.Lemmas.{[], more-nodes, no-nodes}
use Rattle.native_containers.proofs.list.push.Goals as goal

pub push_items-requires-clause-more : goal.push_items-requires-clause-more
push_items-requires-clause-more c =
    let w = c.args.world.now in
    more-nodes w [] c.args.last (no-nodes w) c.requires.last
