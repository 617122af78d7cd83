use Rattle.proto_object.proofs.Lemmas.{[], refl, sym, ◌∙◌, Answered, plain, hint-expects}
use Rattle.std.proofs.Common.{◌∷◌}
use Rattle.proto_object.proofs.proto_number.lengths.expected.Goals as goal

pub returns-in-None-clause-goes : goal.returns-in-None-clause-goes
returns-in-None-clause-goes c = λ t r.
    let a = c.args in
    let e = sym c.is_type_error.ensures ∙ c.if-not-is_type_error.false in
    let expects = hint-expects (plain t a.world.now) a.o a.given a.answer c.in-Err.raised [] c.in-Err.is e in
    (r, rw (expects, c.method.ensures.found t r ∙ c.in-None.is) (c.or_given.ensures.answer, refl))

pub returns-in-Some-clause-goes : goal.returns-in-Some-clause-goes
returns-in-Some-clause-goes c = λ t r.
    let a = c.args in
    let e = sym c.is_type_error.ensures ∙ c.if-not-is_type_error.false in
    let x = c.in-Err.raised in
    let expects = hint-expects (plain t a.world.now) a.o a.given a.answer x [] c.in-Err.is e in (
      r,
      rw (expects, c.method.ensures.found t r ∙ c.in-Some.is, c.type_object.ensures.object t)
          (refl, refl, λ u q more. hint-expects u a.o a.given a.answer x (Answered q ∷ more) c.in-Err.is e),
    )
