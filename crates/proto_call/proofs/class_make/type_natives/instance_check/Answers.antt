use Rattle.proto_call.proofs.Lemmas.{sym, ap, ◌∙◌, err_from_is_err_and, Ends, is_instance, value, truth, plain}
use Rattle.proto_call.proofs.class_make.type_natives.instance_check.Goals as goal

pub returns-in_err-class-clause-ends : goal.returns-in_err-class-clause-ends
returns-in_err-class-clause-ends c =
    let p = err_from_is_err_and c.from_residual.result c.from_residual.ensures.1 in
    rw (p.1, p.2) (λ t r.
    let u = plain t c.args.world.now in
    (r, c.in_err-class.ensures.refused t (λ k o. Ends u (value (truth (is_instance u o k))))))

pub returns-clause-ends : goal.returns-clause-ends
returns-clause-ends c = λ t r.
    let u = plain t c.args.world.now in (
      r,
      c.in_ok-class.ensures.given t (λ k o. Ends u (value (truth (is_instance u o k))))
          ∙ ap (λ b. Ends u (value (truth b))) (c.is_instance.ensures t)
          ∙ ap (λ n. Ends u (value n)) (sym c.truth.ensures.object),
    )
