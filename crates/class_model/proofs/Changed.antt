-- Linearisations after one more class, and after a class was changed.
use Rattle.class_model.proofs.Below.{ℕ, true, Bool, List, [], map, length, Some, refl, sym, ap, ◌∙◌, arith, option_map, option_and_then, PyObjectRef, with_value, least_order, all_some, linear, Includes, Class, Classes, is_class, bases_of, lin, limit, with_class, with_changed, with_class_attr}
use Rattle.std.proofs.Common.{◌≡◌, ◌≤◌, ◌∷◌}
use Rattle.class_model.proofs.Numbers.{at-before, at-last, at-changed, length-changed}
use Rattle.class_model.proofs.OneBase.{least_order-one_base, least_order-no_base}
use Rattle.class_model.proofs.Linear.{linear-same}
use Rattle.class_model.proofs.Rule.{lin-begins, lin-distinct, lin-classes, lin-below, lin-rule, lin-along}

module _ {K : Type 0} where
  -- the rule, from its parts
  pub lin-by : (t : Classes K) (c : ℕ) (bs : List ℕ) (lines : List (List ℕ)) (line : List ℕ) → bases_of t c ≡ Some bs → all_some (map (lin t) bs) ≡ Some lines → least_order c bs lines ≡ Some line → lin t c ≡ Some line
  lin-by t c bs lines line h k e =
      lin-rule t c ∙ ap (option_and_then (λ bs. option_and_then (least_order c bs) (all_some (map (lin t) bs)))) h ∙ ap (option_and_then (least_order c bs)) k ∙ e

  pub lin-one : (t : Classes K) (c b : ℕ) (line : List ℕ) → bases_of t c ≡ Some (b ∷ []) → lin t b ≡ Some line → (Includes line c → ⊥) → lin t c ≡ Some (c ∷ line)
  lin-one t c b line h e apart =
      lin-by t c (b ∷ []) (line ∷ []) (c ∷ line) h (ap (λ o. all_some (o ∷ [])) e) (least_order-one_base c b line (lin-begins t b line e) (lin-distinct t b line e) apart)

  pub bases_of-before : (t : Classes K) (k : Class K) (c : ℕ) → is_class t c ≡ true → bases_of (with_class t k) c ≡ bases_of t c
  bases_of-before t k c l = ap (option_map (λ (j : Class K). j.bases)) (at-before t k c l)

  pub lin-push : (t : Classes K) (k : Class K) (c : ℕ) (line : List ℕ) → lin t c ≡ Some line → lin (with_class t k) c ≡ Some line
  lin-push t k c line e = lin-along t (with_class t k) c line e (λ x h. sym (bases_of-before t k x (lin-classes t c line x e h)))

  -- the new class
  module _ (t : Classes K) (k : Class K) (fresh : limit t ≤ k.number) where
    pub bases_of-last : (bs : List ℕ) → k.bases ≡ bs → bases_of (with_class t k) k.number ≡ Some bs
    bases_of-last bs e = ap (option_map (λ (j : Class K). j.bases)) (at-last t k fresh) ∙ ap Some e

    pub lin-root : k.bases ≡ [] → lin (with_class t k) k.number ≡ Some (k.number ∷ [])
    lin-root e = lin-by (with_class t k) k.number [] [] (k.number ∷ []) (bases_of-last [] e) refl (least_order-no_base k.number)

    pub lin-one_base : (b : ℕ) (line : List ℕ) → k.bases ≡ b ∷ [] → lin t b ≡ Some line → lin (with_class t k) k.number ≡ Some (k.number ∷ line)
    lin-one_base b line e h =
        lin-one (with_class t k) k.number b line (bases_of-last (b ∷ []) e) (lin-push t k b line h) (λ p. let l = lin-below t b line k.number h p in omega arith)

  -- a change that keeps each class's number and bases keeps all linearisations
  pub lin-changed : (f : Class K → Class K) → ((k : Class K) → (f k).number ≡ k.number) → ((k : Class K) → (f k).bases ≡ k.bases) → (t : Classes K) (c d : ℕ) → lin (with_changed f t c) d ≡ lin t d
  lin-changed f keeps h t c d =
      linear-same (bases_of (with_changed f t c)) (bases_of t) (at-changed f keeps (option_map (λ (k : Class K). k.bases)) (λ k. ap Some (h k)) t c) (length (with_changed f t c)) d ∙ ap (λ n. linear (bases_of t) n d) (length-changed f keeps t c)

  pub lin-attr : (same : K → K → Bool) (t : Classes K) (c : ℕ) (n : K) (v : PyObjectRef) (d : ℕ) → lin (with_class_attr same t c n v) d ≡ lin t d
  lin-attr same t c n v d = lin-changed (λ k. record k { attrs = with_value same k.attrs n v }) (λ k. refl) (λ k. refl) t c d
