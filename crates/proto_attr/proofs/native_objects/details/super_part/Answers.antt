use Rattle.proto_attr.proofs.Lemmas.{ap, sym, subst, ◌∙◌, option_map, PySuper, AllHold, IsClass, of_option, of_start, looked_part}
use Rattle.std.proofs.Common.{◌∷◌}
use Rattle.proto_attr.proofs.native_objects.details.super_part.Goals as goal

pub returns-in-Super-clause-part : goal.returns-in-Super-clause-part
returns-in-Super-clause-part c =
    rw c.in-Super.is (λ t. ap (λ (p : PySuper). looked_part c.args.detail p.typ.0 (option_map (λ b. (b.0, b.1.0)) p.obj)) (sym c.get.ensures) ∙ c.looked_part.ensures.part t)

pub returns-in-Super-clause-holds : goal.returns-in-Super-clause-holds
returns-in-Super-clause-holds c =
    rw c.in-Super.is (λ w h. c.looked_part.ensures.holds w (subst (λ (p : PySuper). AllHold w (IsClass p.typ.0 ∷ of_option of_start p.obj)) (sym c.get.ensures) h))
