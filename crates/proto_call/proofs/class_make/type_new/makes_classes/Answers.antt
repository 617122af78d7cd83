use Rattle.proto_call.proofs.Lemmas.{true, ℕ, Option, Some, None, ap, sym, ◌∙◌, option_map, eqb-true, TypeType, is_class}
use Rattle.std.proofs.Common.{◌≡◌}
use Rattle.proto_call.proofs.class_make.type_new.makes_classes.Goals as goal

is-there : (o : Option ℕ) (c : ℕ) → is_class o c ≡ true → o ≡ Some c
is-there None c e = cc
is-there (Some d) c e = ap Some (eqb-true d c e)

pub returns-clause-of : goal.returns-clause-of
returns-clause-of c = λ h. c.nearest_built_in.ensures.of TypeType (is-there (option_map (λ d. d.0) c.nearest_built_in.result) c.built_in-of_type.result.0 (sym c.is_place.ensures ∙ h) ∙ ap Some c.built_in-of_type.ensures.place)
