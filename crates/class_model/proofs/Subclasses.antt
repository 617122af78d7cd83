-- The subclasses of a class, after one more class and after an attribute was set.
use Rattle.class_model.proofs.Below.{ℕ, suc, Bool, true, false, cond, eqb, List, [], Some, refl, sym, ap, ◌∙◌, arith, is_some, slice_get, option_map, eq-eqb, ne_eqb, false_from_ne_true, append-nil, PyObjectRef, with_value, has, Includes, Class, Classes, is_class, lin, subclasses, is_ascending, limit, with_class, with_class_attr}
use Rattle.std.proofs.Common.{◌≡◌, ◌<◌, ◌≤◌, ◌||◌, ◌∷◌, ◌++◌}
use Rattle.class_model.proofs.Numbers.{at-from_place, below-limit}
use Rattle.class_model.proofs.Tests.{Decides-has}
use Rattle.class_model.proofs.Rule.{lin-below, lin-bases}

module _ {K : Type 0} where
  pub subclasses-push : (t : Classes K) (k : Class K) (c : ℕ) → subclasses (with_class t k) c ≡ subclasses t c ++ cond (has k.bases c) (k.number ∷ []) []
  subclasses-push [] k c = refl
  subclasses-push (j ∷ t) k c =
      let r = subclasses-push t k c in
      elim (has j.bases c) as (λ b. cond b (j.number ∷ subclasses (with_class t k) c) (subclasses (with_class t k) c) ≡ cond b (j.number ∷ subclasses t c) (subclasses t c) ++ cond (has k.bases c) (k.number ∷ []) []) [ true ↦ ap (λ ys. j.number ∷ ys) r | false ↦ r ]

  -- a class that is no base of the new one
  pub subclasses-push_away : (t : Classes K) (k : Class K) (c : ℕ) → has k.bases c ≡ false → subclasses (with_class t k) c ≡ subclasses t c
  subclasses-push_away t k c e =
      subclasses-push t k c ∙ ap (λ b. subclasses t c ++ cond b (k.number ∷ []) []) e ∙ append-nil (subclasses t c)

  pub subclasses-root : (t : Classes K) (k : Class K) (c : ℕ) → k.bases ≡ [] → subclasses (with_class t k) c ≡ subclasses t c
  subclasses-root t k c e = subclasses-push_away t k c (ap (λ bs. has bs c) e)

  pub subclasses-other : (t : Classes K) (k : Class K) (b c : ℕ) → k.bases ≡ b ∷ [] → (c ≡ b → ⊥) → subclasses (with_class t k) c ≡ subclasses t c
  subclasses-other t k b c e n =
      subclasses-push_away t k c (ap (λ bs. has bs c) e ∙ ap (λ w. w || false) (ne_eqb b c (λ i. n (sym i))))

  pub subclasses-base : (t : Classes K) (k : Class K) (b : ℕ) → k.bases ≡ b ∷ [] → subclasses (with_class t k) b ≡ subclasses t b ++ k.number ∷ []
  subclasses-base t k b e =
      subclasses-push t k b ∙ ap (λ w. subclasses t b ++ cond w (k.number ∷ []) []) (ap (λ bs. has bs b) e ∙ ap (λ w. w || false) (eq-eqb b b refl))

  pub subclasses-none : (t : Classes K) (c : ℕ) → ((i : ℕ) (k : Class K) → slice_get t i ≡ Some k → has k.bases c ≡ false) → subclasses t c ≡ []
  subclasses-none [] c h = refl
  subclasses-none (k ∷ t) c h =
      ap (λ b. cond b (k.number ∷ subclasses t c) (subclasses t c)) (h 0 k refl) ∙ subclasses-none t c (λ i j e. h (suc i) j e)

  -- no class has one as a base that is not there
  pub subclasses-past : (t : Classes K) (c : ℕ) → is_ascending t ≡ true → limit t ≤ c → ((d : ℕ) → is_class t d ≡ true → (l : List ℕ) × (lin t d ≡ Some l)) → subclasses t c ≡ []
  subclasses-past t c up past lines = subclasses-none t c apart
    where
      apart : (i : ℕ) (k : Class K) → slice_get t i ≡ Some k → has k.bases c ≡ false
      apart i k e =
          let h = at-from_place t i k up e in
          let r = lines k.number (ap is_some h) in
          let held : has k.bases c ≡ true → c < limit t =
          λ q. lin-below t k.number r.0 c r.1 (lin-bases t k.number r.0 k.bases c r.1 (ap (option_map (λ (j : Class K). j.bases)) h) ((Decides-has k.bases c).0 q)) in
          false_from_ne_true (has k.bases c) (λ q. let l = held q in omega arith)

  pub subclasses-new : (t : Classes K) (k : Class K) → is_ascending t ≡ true → limit t ≤ k.number → ((d : ℕ) → is_class t d ≡ true → (l : List ℕ) × (lin t d ≡ Some l)) → ((b : ℕ) → Includes k.bases b → is_class t b ≡ true) → subclasses (with_class t k) k.number ≡ []
  subclasses-new t k up past lines there =
      subclasses-push_away t k k.number (false_from_ne_true (has k.bases k.number) (λ h. let l = below-limit t k.number (there k.number ((Decides-has k.bases k.number).0 h)) in omega arith)) ∙ subclasses-past t k.number up past lines

  pub subclasses-attr : (same : K → K → Bool) (t : Classes K) (c : ℕ) (n : K) (v : PyObjectRef) (d : ℕ) → subclasses (with_class_attr same t c n v) d ≡ subclasses t d
  subclasses-attr same [] c n v d = refl
  subclasses-attr same (k ∷ t) c n v d =
      elim (eqb k.number c) as (λ b. subclasses (cond b (record k { attrs = with_value same k.attrs n v } ∷ t) (k ∷ with_class_attr same t c n v)) d ≡ subclasses (k ∷ t) d) [ true ↦ refl | false ↦ ap (λ ys. cond (has k.bases d) (k.number ∷ ys) ys) (subclasses-attr same t c n v d) ]
