use Rattle.proto_attr.proofs.Lemmas.{no-nodes}
use Rattle.proto_attr.proofs.native_objects.makers.new_list.Goals as goal

pub make_node-requires-clause-payload : goal.make_node-requires-clause-payload
make_node-requires-clause-payload c = rw c.new-items.ensures.items (no-nodes _, tt)
