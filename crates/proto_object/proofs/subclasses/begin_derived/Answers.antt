use Rattle.proto_object.proofs.Lemmas.{[], of_task, IsNode, all-append}
use Rattle.std.proofs.Common.{◌∷◌}
use Rattle.proto_object.proofs.subclasses.begin_derived.Goals as goal

pub returns-else-d-c-clause-safe : goal.returns-else-d-c-clause-safe
returns-else-d-c-clause-safe c =
    let a = c.args in
    all-append a.world.now (of_task c.attribute-bases.result) (IsNode a.c ∷ []) c.attribute-bases.ensures.holds (c.requires.c, tt)
