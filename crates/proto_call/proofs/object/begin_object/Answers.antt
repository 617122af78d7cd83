use Rattle.proto_call.proofs.Lemmas.{bindings, call_job_say}
use Rattle.proto_call.proofs.object.begin_object.Goals as goal

pub returns-clause-goes : goal.returns-clause-goes
unfolding call_job_say
returns-clause-goes c =
    let goes = rw (c.deref.ensures.value, c.deref-2.ensures.value) at c.in_ok-step.ensures.goes in
    goes c.args.args.items (λ t. bindings t c.args.kw.items)
