use Rattle.proto_attr.proofs.Lemmas.{◌∙◌, Some, None, arith, bindings, get-one, get-two}
use Rattle.proto_attr.proofs.native_calls.bind.object_and_class.Goals as goal

pub returns-in-Err-clause-refused : goal.returns-in-Err-clause-refused
returns-in-Err-clause-refused c = λ t w go. get-two w c.args.call.args.now (bindings t c.args.call.kw.now) go (omega (arith, c.if-call-eq2.true)) ∙ c.in-Err.ensures.refused t w (λ o k. go o (Some k))

pub returns-in-Ok-clause-given : goal.returns-in-Ok-clause-given
returns-in-Ok-clause-given c = λ t w go. get-two w c.args.call.args.now (bindings t c.args.call.kw.now) go (omega (arith, c.if-call-eq2.true)) ∙ c.in-Ok.ensures.given t w (λ o k. go o (Some k))

pub returns-in-Err-one-clause-refused : goal.returns-in-Err-one-clause-refused
returns-in-Err-one-clause-refused c = λ t w go. get-one w c.args.call.args.now (bindings t c.args.call.kw.now) go (λ e. omega (arith, e, c.if-call-eq2.false)) ∙ c.in-Err-one.ensures.refused t w (λ o. go o None)

pub returns-in-Ok-one-clause-given : goal.returns-in-Ok-one-clause-given
returns-in-Ok-one-clause-given c = λ t w go. get-one w c.args.call.args.now (bindings t c.args.call.kw.now) go (λ e. omega (arith, e, c.if-call-eq2.false)) ∙ c.in-Ok-one.ensures.given t w (λ o. go o None)
