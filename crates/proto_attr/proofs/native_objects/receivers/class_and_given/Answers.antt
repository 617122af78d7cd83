use Rattle.proto_attr.proofs.Lemmas.{◌∙◌, bindings, plain, with_one_or_two}
use Rattle.proto_attr.proofs.native_objects.receivers.class_and_given.Goals as goal

pub returns-in-Err-one_or_two-clause-refused : goal.returns-in-Err-one_or_two-clause-refused
returns-in-Err-one_or_two-clause-refused c = λ t go.
    let u = plain t c.args.world.now in
    c.in-Ok.ensures.given t (λ k. with_one_or_two u c.args.call.args.now (bindings t c.args.call.kw.now) (λ o. go k))
    ∙ c.in-Err-one_or_two.ensures.refused t u (λ o. go c.in-Ok.class.0)

pub returns-in-Ok-one_or_two-clause-given : goal.returns-in-Ok-one_or_two-clause-given
returns-in-Ok-one_or_two-clause-given c = λ t go.
    let u = plain t c.args.world.now in
    c.in-Ok.ensures.given t (λ k. with_one_or_two u c.args.call.args.now (bindings t c.args.call.kw.now) (λ o. go k))
    ∙ c.in-Ok-one_or_two.ensures.given t u (λ o. go c.in-Ok.class.0)
