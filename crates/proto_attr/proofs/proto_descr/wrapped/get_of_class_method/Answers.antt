use Rattle.proto_attr.proofs.Lemmas.{[], of_task, IsNode, all-append}
use Rattle.std.proofs.Common.{◌∷◌}
use Rattle.proto_attr.proofs.proto_descr.wrapped.get_of_class_method.Goals as goal

pub returns-in-ClassMethod-clause-safe : goal.returns-in-ClassMethod-clause-safe
returns-in-ClassMethod-clause-safe c =
    let held = rw c.in-ClassMethod.is at c.payload.ensures.holds in
    all-append c.args.world.now (of_task c.get_of.result) (IsNode c.class_for-class.result ∷ (IsNode c.in-ClassMethod.func ∷ [])) c.get_of.ensures.holds (c.class_for-class.ensures.node, (held.0, tt))
