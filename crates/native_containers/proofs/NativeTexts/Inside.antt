-- A text stands in another just where it can be cut out of it.
use Rattle.native_containers.proofs.Below.{ℕ, Bool, true, false, eqb, List, [], refl, sym, ap, ap₂, subst, arith, inl, inr, take, length, pointwise, HasSubslice, starts_with, and_parts, nat_tests, common_steps, stands_in}
use Rattle.std.proofs.Common.{◌≡◌, ◌||◌, ◌⊎◌, ◌∷◌, ◌++◌, ◌↔◌}

either_true : (p q : Bool) → (p || q) ≡ true → (p ≡ true) ⊎ (q ≡ true)
either_true true q e = inl refl
either_true false q e = inr e

right_true : (p q : Bool) → q ≡ true → (p || q) ≡ true
right_true true q e = refl
right_true false q e = e

same_test : (p q : Bool) → (p ≡ true → q ≡ true) → (q ≡ true → p ≡ true) → p ≡ q
same_test true q f g = sym (f refl)
same_test false true f g = g refl
same_test false false f g = refl

-- what begins with a text goes on after it
begins : (x y : List ℕ) → starts_with eqb y x ≡ true → (b : List ℕ) × (y ≡ x ++ b)
begins [] y e = (y, refl)
begins (a ∷ x) [] e = absurd (grind (arith, common_steps))
begins (a ∷ x) (b ∷ y) e =
    let parts = and_parts (eqb a b) (pointwise eqb x (take (length x) y)) e in
    let rest = begins x y parts.1 in
    let first : b ≡ a = grind (arith, nat_tests, parts.0) in
    (rest.0, ap₂ (λ (c : ℕ) (z : List ℕ). c ∷ z) first rest.1)

begun : (x b : List ℕ) → starts_with eqb (x ++ b) x ≡ true
begun [] b = refl
begun (a ∷ x) b = grind (arith, common_steps, begun x b)

at_start : (x y : List ℕ) → starts_with eqb y x ≡ true → stands_in x y ≡ true
at_start x [] e = e
at_start x (c ∷ y) e = ap (λ p. p || stands_in x y) e

cut_out : (x y : List ℕ) → stands_in x y ≡ true → HasSubslice y x
cut_out x [] e = let h = begins x [] e in ([], h.0, h.1)
cut_out x (b ∷ y) e = elim (either_true (starts_with eqb (b ∷ y) x) (stands_in x y) e) [
  | inl p ↦ let h = begins x (b ∷ y) p in ([], h.0, h.1)
  | inr q ↦ let h = cut_out x y q in (b ∷ h.0, h.1, ap (λ (z : List ℕ). b ∷ z) h.2)
]

found : (x a b : List ℕ) → stands_in x (a ++ (x ++ b)) ≡ true
found x [] b = at_start x (x ++ b) (begun x b)
found x (c ∷ a) b = right_true (starts_with eqb (c ∷ (a ++ (x ++ b))) x) (stands_in x (a ++ (x ++ b))) (found x a b)

pub inside : (r : Bool) (x y : List ℕ) → (r ≡ true) ↔ HasSubslice y x → r ≡ stands_in x y
inside r x y h =
    same_test r (stands_in x y)
    (λ e. let cut = h.0 e in subst (λ z. stands_in x z ≡ true) (sym cut.2) (found x cut.0 cut.1))
    (λ e. h.1 (cut_out x y e))
