use Rattle.proto_object.proofs.Lemmas.{[], of_task, IsNode, all-append}
use Rattle.std.proofs.Common.{◌∷◌}
use Rattle.proto_object.proofs.classes.begin_inst.Goals as goal

pub returns-in-None-clause-safe : goal.returns-in-None-clause-safe
returns-in-None-clause-safe c =
    let a = c.args in
    all-append a.world.now (of_task c.attribute-bases.result) (IsNode a.o ∷ IsNode a.c ∷ []) c.attribute-bases.ensures.holds (c.requires.o, (c.requires.c, tt))

pub returns-else-is_instance-clause-safe : goal.returns-else-is_instance-clause-safe
returns-else-is_instance-clause-safe c =
    let a = c.args in
    all-append a.world.now (of_task c.attribute-given.result) (IsNode a.o ∷ IsNode a.c ∷ []) c.attribute-given.ensures.holds (c.requires.o, (c.requires.c, tt))
