use Rattle.proto_object.proofs.Lemmas.{[], of_task, IsNode, all-append}
use Rattle.std.proofs.Common.{◌∷◌}
use Rattle.proto_object.proofs.subclasses.first_has_bases.Goals as goal

pub returns-in-Ok-Value-clause-safe : goal.returns-in-Ok-Value-clause-safe
returns-in-Ok-Value-clause-safe c =
    let a = c.args in
    all-append a.world.now (of_task c.attribute-bases.result) (IsNode a.d ∷ IsNode a.c ∷ []) c.attribute-bases.ensures.holds (c.requires.d, (c.requires.c, tt))
