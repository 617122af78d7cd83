use Rattle.proto_attr.proofs.Lemmas.{ap, sym, subst, ◌∙◌, PySlice, AllHold, of_optional, bounds_part}
use Rattle.std.proofs.Common.{[], ◌∷◌}
use Rattle.proto_attr.proofs.native_objects.details.slice_part.Goals as goal

pub returns-in-Slice-clause-part : goal.returns-in-Slice-clause-part
returns-in-Slice-clause-part c =
    rw c.in-Slice.is (λ t. ap (λ (p : PySlice). bounds_part c.args.detail p) (sym c.get.ensures) ∙ c.bounds_part.ensures.part t)

pub returns-in-Slice-clause-holds : goal.returns-in-Slice-clause-holds
returns-in-Slice-clause-holds c =
    rw c.in-Slice.is (λ w h. c.bounds_part.ensures.holds w (subst (λ (p : PySlice). AllHold w (of_optional (p.start ∷ p.stop ∷ p.step ∷ []))) (sym c.get.ensures) h))
