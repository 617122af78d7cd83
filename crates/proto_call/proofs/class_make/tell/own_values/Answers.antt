use Rattle.proto_call.proofs.Lemmas.{◌∙◌, ap, sym, subst, bindings, plain, AllHold, of_binding, of_each, class_at, attrs-read}
use Rattle.proto_call.proofs.class_make.tell.own_values.Goals as goal

pub returns-clause-values : goal.returns-clause-values
returns-clause-values c = λ t.
    attrs-read (class_at (plain t c.args.world.now).classes c.args.class.0) (bindings t c.attributes-attrs.result.now) (c.attributes-attrs.ensures.attrs t) ∙ ap (bindings t) (sym c.in_ok-values.ensures)

pub returns-clause-holds : goal.returns-clause-holds
returns-clause-holds c =
    subst (λ bs. AllHold c.args.world.now (of_each of_binding bs)) (sym c.in_ok-values.ensures) c.attributes-attrs.ensures.holds
