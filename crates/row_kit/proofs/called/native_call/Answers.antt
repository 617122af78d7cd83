use Rattle.row_kit.proofs.Lemmas.{ap, sym, ◌∙◌, bindings, call_native}
use Rattle.row_kit.proofs.called.native_call.Goals as goal

pub returns-clause-task : goal.returns-clause-task
returns-clause-task c = λ t.
    c.in_ok-task.ensures.task t ∙ ap (λ d. call_native c.args.native d c.args.f c.args.args.items (bindings t c.args.kw.items)) (sym (c.payload.ensures.reads t))
