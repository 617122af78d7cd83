use Rattle.native_containers.proofs.Lemmas.{Err, sym, ap, ◌∙◌, MissingKey, Ends, fault, Held, plain, ends_none, not-taken, taken}
use Rattle.native_containers.proofs.dict.take_key.Goals as goal

pub returns-then-not-take_value_under-clause-ends : goal.returns-then-not-take_value_under-clause-ends
returns-then-not-take_value_under-clause-ends c = λ t q.
    let old = c.args.world.now in
    let new = c.take_value_under.new.self in
    let no = c.if-not-take_value_under.true in (
      c.take_value_under.ensures.reads t q,
      not-taken (plain t old) c.args.dict c.args.key (c.take_value_under.ensures.there t ∙ no)
          ∙ ap (λ (w : Held). Ends (plain t w) (fault MissingKey)) (sym (c.take_value_under.ensures.kept no))
          ∙ ap (λ x. Ends (plain t new) (Err x)) (sym c.new.ensures),
    )

pub returns-clause-ends : goal.returns-clause-ends
returns-clause-ends c = λ t q.
    let yes = c.if-not-take_value_under.false in (
      c.take_value_under.ensures.reads t q,
      taken (plain t c.args.world.now) c.args.dict c.args.key (c.take_value_under.ensures.there t ∙ yes)
          ∙ ap ends_none (sym (c.take_value_under.ensures.taken yes t))
          ∙ (c.ends_none.ensures.ends t q).1,
    )
