use Rattle.proto_call.proofs.Lemmas.{sym, ◌∙◌, call-first, no-nodes}
use Rattle.proto_call.proofs.eval_forms.call_form.callee_step.Goals as goal

pub next_argument-requires-clause-values : goal.next_argument-requires-clause-values
next_argument-requires-clause-values c = rw c.new.ensures.items (no-nodes _)

pub returns-in-None-clause-goes : goal.returns-in-None-clause-goes
returns-in-None-clause-goes c =
    call-first c.args.world.now c.args.e c.args.func c.form.result.now c.args.value c.new.result c.next_argument.result c.form.ensures.stored (sym c.attribute.ensures ∙ c.in-None.is) c.new.ensures.items c.next_argument.ensures.goes
