use Rattle.proto_attr.proofs.Lemmas.{rest-hold}
use Rattle.proto_attr.proofs.native_calls.supers.super_attribute_by_name.Goals as goal

pub name_in-requires : goal.name_in-requires
name_in-requires c = c.in-Ok.ensures.node c.args.world.now (rest-hold c.args.world.now c.args.call.args.now c.requires)
