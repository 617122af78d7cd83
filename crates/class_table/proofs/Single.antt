-- At most one base is never refused for its order.
use Rattle.class_table.proofs.Below.{ℕ, true, List, [], length, Option, Some, None, cond, refl, ap, ◌∙◌, arith, is_some, option_and_then, option_or, NotBaseType, all_some, Class, Classes, class_at, is_class, lin, limit, order_cause, some-of, least_order-one_base, least_order-no_base, lin-begins, lin-distinct, lin-below, is_base_at, refused_lines, refused_order, refused_bases, AreThere}
use Rattle.std.proofs.Common.{◌≡◌, ◌≤◌, ◌∷◌}

module _ {K : Type 0} (t : Classes K) where
  pub one-ordered : (bs : List ℕ) → ((c : ℕ) → is_class t c ≡ true → is_some (lin t c) ≡ true) → length bs ≤ 1 → AreThere t bs → refused_order t bs ≡ None
  one-ordered [] order l h = ap (λ o. cond (is_some o) None (Some (order_cause [] []))) (least_order-no_base (limit t))
  one-ordered (b ∷ []) order l h =
      let r = some-of (lin t b) (order b h.0) in
      let e = least_order-one_base (limit t) b r.0 (lin-begins t b r.0 r.1) (lin-distinct t b r.0 r.1) (λ k. let q = lin-below t b r.0 (limit t) r.1 k in omega arith) in
      ap (λ o. option_and_then (refused_lines t (b ∷ [])) (all_some (o ∷ []))) r.1
      ∙ ap (λ o. cond (is_some o) None (Some (order_cause (b ∷ []) (r.0 ∷ [])))) e
  one-ordered (b ∷ c ∷ bs) order l h = absurd (omega arith)

  -- a base that may have subclasses is never refused
  pub one-allowed : (b : ℕ) → ((c : ℕ) → is_class t c ≡ true → is_some (lin t c) ≡ true) → is_base_at (class_at t b) ≡ true → refused_bases t (b ∷ []) ≡ None
  one-allowed b order may =
      let there : is_class t b ≡ true = based (class_at t b) may in
      ap (λ v. option_or (option_or (cond v None (Some NotBaseType)) None) (refused_order t (b ∷ []))) may ∙ one-ordered (b ∷ []) order (omega arith) (there, tt)
    where
      based : (o : Option (Class K)) → is_base_at o ≡ true → is_some o ≡ true
      based None e = cc
      based (Some k) e = refl
