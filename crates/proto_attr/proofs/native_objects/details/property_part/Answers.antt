use Rattle.proto_attr.proofs.Lemmas.{ap, subst, sym, ◌∙◌, PyProperty, AllHold, of_property, accessor_part}
use Rattle.proto_attr.proofs.native_objects.details.property_part.Goals as goal

pub returns-in-Property-clause-part : goal.returns-in-Property-clause-part
returns-in-Property-clause-part c =
    rw c.in-Property.is (λ t. ap (λ (p : PyProperty). accessor_part c.args.detail p) (sym c.deref.ensures) ∙ c.accessor_part.ensures.part t)

pub returns-in-Property-clause-holds : goal.returns-in-Property-clause-holds
returns-in-Property-clause-holds c =
    rw c.in-Property.is (λ w h. c.accessor_part.ensures.holds w (subst (λ (p : PyProperty). AllHold w (of_property p)) (sym c.deref.ensures) h))
