-- A class that isn't there has no linearisation.
use Rattle.class_view.proofs.Below.{ℕ, zero, suc, false, List, map, Option, Some, None, is_some, option_and_then, option_map, refl, sym, ap, rules, all_some, least_order, linear, PyStrInterned, is_same_name, Classes, class_at, bases_of, is_along, is_class, is_sub, lin, along, found}
use Rattle.std.proofs.Common.{◌≡◌}

none_of : {A : Type 0} (o : Option A) → is_some o ≡ false → o ≡ None
none_of None e = refl
none_of (Some a) e = absurd (search rules)

linear_none : (bases : ℕ → Option (List ℕ)) (n c : ℕ) → bases c ≡ None → linear bases n c ≡ None
unfolding linear
linear_none bases zero c e = refl
linear_none bases (suc n) c e = ap (λ (o : Option (List ℕ)). option_and_then (λ bs. option_and_then (least_order c bs) (all_some (map (linear bases n) bs))) o) e

module _ (t : Classes PyStrInterned) (c : ℕ) (away : is_class t c ≡ false) where
  line_none : lin t c ≡ None
  line_none = linear_none (bases_of t) _ c (ap (λ o. option_map (λ k. k.bases) o) (none_of (class_at t c) away))

pub line_absent : (t : Classes PyStrInterned) (c : ℕ) → is_class t c ≡ false → None ≡ lin t c
line_absent t c away = sym (line_none t c away)

pub sub_absent : (t : Classes PyStrInterned) (c d : ℕ) → is_class t c ≡ false → is_sub t c d ≡ false
sub_absent t c d away = ap (λ (o : Option (List ℕ)). is_along d o) (line_none t c away)

pub found_absent : (t : Classes PyStrInterned) (c : ℕ) (n : PyStrInterned) → is_class t c ≡ false → None ≡ found is_same_name t c n
found_absent t c n away = sym (ap (λ (o : Option (List ℕ)). option_and_then (along (λ k. is_same_name k n) t) o) (line_none t c away))
