use Rattle.proto_attr.proofs.Lemmas.{Some, None, ◌∙◌, bindings, one-given, two-given}
use Rattle.proto_attr.proofs.native_objects.receivers.one_or_two.Goals as goal

pub returns-in-Err-clause-refused : goal.returns-in-Err-clause-refused
returns-in-Err-clause-refused c = λ t u go.
    two-given u c.args.call.args.now (bindings t c.args.call.kw.now) go c.if-call-eq2.true ∙ c.in-Err.ensures.refused t u (λ o a. go o (Some a))

pub returns-in-Ok-clause-given : goal.returns-in-Ok-clause-given
returns-in-Ok-clause-given c = λ t u go.
    two-given u c.args.call.args.now (bindings t c.args.call.kw.now) go c.if-call-eq2.true ∙ c.in-Ok.ensures.given t u (λ o a. go o (Some a))

pub returns-in-Err-one-clause-refused : goal.returns-in-Err-one-clause-refused
returns-in-Err-one-clause-refused c = λ t u go.
    one-given u c.args.call.args.now (bindings t c.args.call.kw.now) go c.if-call-eq2.false ∙ c.in-Err-one.ensures.refused t u (λ o. go o None)

pub returns-in-Ok-one-clause-given : goal.returns-in-Ok-one-clause-given
returns-in-Ok-one-clause-given c = λ t u go.
    one-given u c.args.call.args.now (bindings t c.args.call.kw.now) go c.if-call-eq2.false ∙ c.in-Ok-one.ensures.given t u (λ o. go o None)
