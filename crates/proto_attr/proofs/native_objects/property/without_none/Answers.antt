use Rattle.proto_attr.proofs.Lemmas.{parts-hold}
use Rattle.proto_attr.proofs.native_objects.property.without_none.Goals as goal

pub returns-clause-holds : goal.returns-clause-holds
returns-clause-holds c = λ w h.
    let p = c.args.parts in
    parts-hold w p.fget p.fset p.fdel p.doc p.name c.unless_none.result c.unless_none-2.result c.unless_none-3.result c.unless_none-4.result c.unless_none-5.result (λ w. c.unless_none.ensures.holds w) (λ w. c.unless_none-2.ensures.holds w) (λ w. c.unless_none-3.ensures.holds w) (λ w. c.unless_none-4.ensures.holds w) (λ w. c.unless_none-5.ensures.holds w) h
