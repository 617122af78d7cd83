use Rattle.proto_object.proofs.Lemmas.{[], of_task, IsNode, all-append}
use Rattle.std.proofs.Common.{◌∷◌}
use Rattle.proto_object.proofs.subclasses.begin_sub.Goals as goal

pub returns-in_default-clause-safe : goal.returns-in_default-clause-safe
returns-in_default-clause-safe c =
    let a = c.args in
    all-append a.world.now (of_task c.attribute-bases.result) (IsNode a.d ∷ IsNode a.c ∷ []) c.attribute-bases.ensures.holds (c.requires.d, (c.requires.c, tt))
