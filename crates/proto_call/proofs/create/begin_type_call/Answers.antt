use Rattle.proto_call.proofs.Lemmas.{refl, IsClass, of_args, of_task, all-append}
use Rattle.std.proofs.Common.{◌∷◌}
use Rattle.proto_call.proofs.create.begin_type_call.Goals as goal

pub returns-clause-safe : goal.returns-clause-safe
returns-clause-safe c =
    let w = c.args.world.now in
    let holds = rw (c.deref.ensures.value, c.deref-2.ensures.value) at c.in_ok-task.ensures.holds in
    (all-append w (of_task c.in_ok-task.task) (IsClass c.args.class.0 ∷ of_args c.args.args.items c.args.kw.items) (holds w c.requires) c.requires, refl)
