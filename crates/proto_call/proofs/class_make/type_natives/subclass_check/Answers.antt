use Rattle.proto_call.proofs.Lemmas.{sym, ap, Err, ◌∙◌, err_from_is_err_and, is_sub, Ends, datum_at, class_number, value, truth, plain, needed}
use Rattle.proto_call.proofs.class_make.type_natives.subclass_check.Goals as goal

pub returns-in_err-class-clause-ends : goal.returns-in_err-class-clause-ends
returns-in_err-class-clause-ends c =
    let p = err_from_is_err_and c.from_residual.result c.from_residual.ensures.1 in
    rw (p.1, p.2) (λ t r.
    let u = plain t c.args.world.now in
    (r, c.in_err-class.ensures.refused t (λ k o. needed u (class_number (datum_at u o)) (λ d. Ends u (value (truth (is_sub u.classes d k)))))))

pub returns-in-None-clause-ends : goal.returns-in-None-clause-ends
returns-in-None-clause-ends c = λ t r.
    let u = plain t c.args.world.now in (
      r,
      c.in_ok-class.ensures.given t (λ k o. needed u (class_number (datum_at u o)) (λ d. Ends u (value (truth (is_sub u.classes d k)))))
          ∙ ap (λ n. needed u n (λ d. Ends u (value (truth (is_sub u.classes d c.in_ok-class.class.0))))) (c.in-None.ensures.number t)
          ∙ ap (λ x. Ends u (Err x)) (sym c.new.ensures),
    )

pub returns-in-Some-clause-ends : goal.returns-in-Some-clause-ends
returns-in-Some-clause-ends c = λ t r.
    let u = plain t c.args.world.now in (
      r,
      c.in_ok-class.ensures.given t (λ k o. needed u (class_number (datum_at u o)) (λ d. Ends u (value (truth (is_sub u.classes d k)))))
          ∙ ap (λ n. needed u n (λ d. Ends u (value (truth (is_sub u.classes d c.in_ok-class.class.0))))) (c.in-Some.ensures.number t)
          ∙ ap (λ b. Ends u (value (truth b))) (c.is_sub.ensures t)
          ∙ ap (λ n. Ends u (value n)) (sym c.truth.ensures.object),
    )
