use Rattle.proto_call.proofs.Lemmas.{None, refl, sym, task_for, asks-made}
use Rattle.std.proofs.Common.{◌≡◌}
use Rattle.proto_call.proofs.eval_forms.words.ask_for.Goals as goal

pub returns-in-None-clause-goes : goal.returns-in-None-clause-goes
returns-in-None-clause-goes c = λ t r.
    let none : task_for c.args.word c.args.values.now ≡ None = sym (c.in-None.ensures.task t) in
    rw (none, c.raise.ensures) (r, (refl, refl))

pub returns-in-Some-clause-goes : goal.returns-in-Some-clause-goes
returns-in-Some-clause-goes c =
    asks-made c.args.world.now c.args.outcome c.in-Some.task (task_for c.args.word c.args.values.now) c.in-Some.ensures.task
