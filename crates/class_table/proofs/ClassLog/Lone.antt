-- The test of a static class's parts.
use Rattle.class_table.proofs.Below.{ℕ, Bool, true, false, not, IsTrue, nat_eq, List, [], length, Option, Some, None, refl, sym, ap, ◌∙◌, subst, rules, Vec, PyTypeRef, PyStrInterned, Classes, numbers, Made, is_of_script, IsOfItsKind}
use Rattle.std.proofs.Common.{◌≡◌, ◌↔◌, ◌∷◌, is_some}
use Rattle.class_table.specs.Keys.{slot_names}

abbrev IsLone : List ℕ → Type 0
IsLone ns = (b : ℕ) × (ns ≡ b ∷ [])

lone : (bs : List PyTypeRef) → IsTrue (nat_eq (length bs) 1) ↔ IsLone (numbers bs)
lone [] = ((λ e. absurd (search rules)), (λ l. absurd (search rules)))
lone (b ∷ []) = ((λ e. (b.0, refl)), (λ l. refl))
lone (b ∷ c ∷ bs) = ((λ e. absurd (search rules)), (λ l. absurd (search rules)))

pub kind-static : (t : Classes PyStrInterned) (m : Made) (bs : List PyTypeRef) → m.bases ≡ numbers bs → is_of_script m ≡ false → m.slots ≡ None → IsTrue (nat_eq (length bs) 1) ↔ IsOfItsKind t m (is_of_script m)
kind-static t m bs is script slots =
    let l = lone bs in
    subst (λ (x : Bool). IsTrue (nat_eq (length bs) 1) ↔ IsOfItsKind t m x) (sym script) (
      (λ e. let one = l.0 e in (slots, one.0, is ∙ one.1)),
      (λ k. l.1 (k.1, sym is ∙ k.2)),
    )

pub no-slots : (o : Option (Vec PyStrInterned)) (b : Bool) → is_some o ≡ not b → b ≡ true → slot_names o ≡ None
no-slots None b is e = refl
no-slots (Some v) b is e = let wrong : true ≡ false = is ∙ ap not e in absurd (search rules)
