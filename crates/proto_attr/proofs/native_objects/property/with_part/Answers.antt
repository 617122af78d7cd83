use Rattle.proto_attr.proofs.Lemmas.{Holds}
use Rattle.proto_attr.proofs.native_objects.property.with_part.Goals as goal

pub text-requires : goal.text-requires
unfolding Holds
text-requires c = rw c.names.ensures c.requires.name
