use Rattle.native_containers.proofs.Lemmas.{no-nodes}
use Rattle.native_containers.proofs.native_conversions.makers.begin_list.Goals as goal

pub fill-ended-requires-clause-items : goal.fill-ended-requires-clause-items
fill-ended-requires-clause-items c = rw c.new-items.ensures.items (no-nodes _)
