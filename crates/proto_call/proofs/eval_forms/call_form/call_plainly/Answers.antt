use Rattle.proto_call.proofs.Lemmas.{[], refl, ap, ◌∙◌, of_task, bindings, AllHold, of_binding, of_each, all-append, called_task}
use Rattle.proto_call.proofs.eval_forms.call_form.call_plainly.Goals as goal

pub returns-clause-goes : goal.returns-clause-goes
returns-clause-goes c = λ w t reads. (
  reads,
  (
    c.call_task.ensures.task t ∙ ap (λ kw. called_task c.args.called c.args.values.items (bindings t kw)) c.new.ensures.items,
    refl,
    λ u r more. refl,
  ),
)

pub returns-clause-safe : goal.returns-clause-safe
returns-clause-safe c = λ w called values.
    let keywords : AllHold w (of_each of_binding c.new.result.items) = rw c.new.ensures.items tt in
    all-append w (of_task c.call_task.result) [] (c.call_task.ensures.safe w called (values, keywords)) tt
