use Rattle.row_kit.proofs.Lemmas.{◌∙◌, err_from_is_err_and, with_one, plain, bindings}
use Rattle.row_kit.proofs.take_classes.lone_class.Goals as goal

pub returns-in_err-_object-clause-refused : goal.returns-in_err-_object-clause-refused
returns-in_err-_object-clause-refused c =
    let p = err_from_is_err_and c.from_residual-in_err-_object.result c.from_residual-in_err-_object.ensures.1 in
    rw (p.1, p.2) (λ t go.
    let w = plain t c.args.world.now in
    c.in_ok-class.ensures.given t (λ k. with_one w c.args.call.args.now (bindings t c.args.call.kw.now) (λ o. go k)) ∙ c.in_err-_object.ensures.refused t w (λ o. go c.in_ok-class.class.0))

pub returns-clause-given : goal.returns-clause-given
returns-clause-given c = λ t go.
    let w = plain t c.args.world.now in
    c.in_ok-class.ensures.given t (λ k. with_one w c.args.call.args.now (bindings t c.args.call.kw.now) (λ o. go k)) ∙ c.in_ok-_object.ensures.given t w (λ o. go c.in_ok-class.class.0)
