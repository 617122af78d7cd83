use Rattle.proto_call.proofs.Lemmas.{None, ap, sym, ◌∙◌, place_of, ref, plain, metaclass}
use Rattle.proto_call.proofs.eval_forms.class_form.metaclass.Goals as goal

pub returns-in-None-None-clause-meta : goal.returns-in-None-None-clause-meta
unfolding place_of
returns-in-None-None-clause-meta c = λ t.
    let w = plain t c.args.world.now in
    ap (λ o. metaclass w o c.args.first) c.in-None-None.is-0 ∙ ap (metaclass w None) c.in-None-None.is-1 ∙ ap ref (sym c.built_in-class.ensures.place) ∙ c.class_object.ensures.object t
