use Rattle.proto_attr.proofs.Lemmas.{none-hold}
use Rattle.proto_attr.proofs.native_objects.makers.new_dict.Goals as goal

pub make_node-requires-clause-payload : goal.make_node-requires-clause-payload
make_node-requires-clause-payload c = rw c.new-dict.ensures (none-hold _)
