use Rattle.proto_call.proofs.Lemmas.{◌∙◌, err_from_is_err_and, with_two, plain, bindings}
use Rattle.proto_call.proofs.class_make.type_natives.class_and.Goals as goal

pub returns-in_err-other-clause-refused : goal.returns-in_err-other-clause-refused
returns-in_err-other-clause-refused c =
    let p = err_from_is_err_and c.from_residual-in_err-other.result c.from_residual-in_err-other.ensures.1 in
    rw (p.1, p.2) (λ t go.
    let w = plain t c.args.world.now in
    c.in_ok-class.ensures.given t (λ k. with_two w c.args.call.args.now (bindings t c.args.call.kw.now) (λ o a. go k a)) ∙ c.in_err-other.ensures.refused t w (λ o a. go c.in_ok-class.class.0 a))

pub returns-clause-given : goal.returns-clause-given
returns-clause-given c = λ t go.
    let w = plain t c.args.world.now in
    c.in_ok-class.ensures.given t (λ k. with_two w c.args.call.args.now (bindings t c.args.call.kw.now) (λ o a. go k a)) ∙ c.in_ok-other.ensures.given t w (λ o a. go c.in_ok-class.class.0 a)
