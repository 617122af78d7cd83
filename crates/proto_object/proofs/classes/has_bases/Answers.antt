use Rattle.proto_object.proofs.Lemmas.{[], of_task, IsNode, all-append}
use Rattle.std.proofs.Common.{◌∷◌}
use Rattle.proto_object.proofs.classes.has_bases.Goals as goal

pub returns-in-Ok-Value-clause-safe : goal.returns-in-Ok-Value-clause-safe
returns-in-Ok-Value-clause-safe c =
    let a = c.args in
    all-append a.world.now (of_task c.attribute-given.result) (IsNode a.c ∷ []) c.attribute-given.ensures.holds (c.requires.c, tt)
