-- Why a class is refused, under other keys.
use Rattle.class_table.proofs.Below.{ℕ, cond, not, List, [], map, Option, Some, None, refl, ap, ◌∙◌, is_some, option_and_then, option_or, NotBaseType, LayoutConflict, DuplicateBase, is_distinct, least_order, all_some, Classes, class_at, lin, is_sub, renamed, past_all, limit, solid, best_of, order_cause, bind-agrees, at-renamed, numbers-renamed, lin-renamed, is_sub-renamed, solid-renamed, best_of-renamed, is_base_at, most_derived, are_apart, refused_base, refused_after, refused_layout, refused_lines, refused_order, refused_bases}
use Rattle.std.proofs.Common.{◌≡◌, ◌||◌, ◌∷◌, ◌++◌}

module _ {K L : Type 0} (f : K → L) (t : Classes K) where
  apart-alike : (o p : Option ℕ) → are_apart (renamed f t) o p ≡ are_apart t o p
  apart-alike None p = refl
  apart-alike (Some c) None = refl
  apart-alike (Some c) (Some d) =
      ap (λ v. not (v || is_sub (renamed f t) d c)) (is_sub-renamed f t c d) ∙ ap (λ v. not (is_sub t c d || v)) (is_sub-renamed f t d c)

  most-alike : (bs : List ℕ) → most_derived (renamed f t) bs ≡ most_derived t bs
  most-alike bs = bind-agrees (solid (renamed f t)) (solid t) (best_of (renamed f t) bs) (best_of t bs) (best_of-renamed f t bs) (λ x e. solid-renamed f t x)

  base-alike : (before : List ℕ) (b : ℕ) → refused_base (renamed f t) before b ≡ refused_base t before b
  base-alike before b =
      ap (λ v. cond v (cond (are_apart (renamed f t) (most_derived (renamed f t) before) (solid (renamed f t) b)) (Some LayoutConflict) None) (Some NotBaseType)) (at-renamed f is_base_at is_base_at refl (λ k. refl) t b)
      ∙ ap (λ v. cond (is_base_at (class_at t b)) (cond v (Some LayoutConflict) None) (Some NotBaseType)) (
      apart-alike (most_derived (renamed f t) before) (solid (renamed f t) b)
      ∙ ap (λ o. are_apart t o (solid (renamed f t) b)) (most-alike before)
      ∙ ap (are_apart t (most_derived t before)) (solid-renamed f t b)
      )

  after-alike : (bs before : List ℕ) → refused_after (renamed f t) before bs ≡ refused_after t before bs
  after-alike [] before = refl
  after-alike (b ∷ bs) before =
      ap (λ o. option_or o (refused_after (renamed f t) (before ++ b ∷ []) bs)) (base-alike before b) ∙ ap (option_or (refused_base t before b)) (after-alike bs (before ++ b ∷ []))

  pub layout-alike : (bs : List ℕ) → refused_layout (renamed f t) bs ≡ refused_layout t bs
  layout-alike [] = refl
  layout-alike (b ∷ bs) = after-alike (b ∷ bs) []

  lines-alike : (bs : List ℕ) → map (lin (renamed f t)) bs ≡ map (lin t) bs
  lines-alike [] = refl
  lines-alike (b ∷ bs) = let here = lin-renamed f t b in let rest = lines-alike bs in cc (here, rest)

  order-alike : (bs : List ℕ) → refused_order (renamed f t) bs ≡ refused_order t bs
  order-alike bs =
      let limits : limit (renamed f t) ≡ limit t = ap past_all (numbers-renamed f t) in
      ap (λ os. cond (is_distinct bs) (option_and_then (refused_lines (renamed f t) bs) (all_some os)) (Some DuplicateBase)) (lines-alike bs)
      ∙ ap (λ n. cond (is_distinct bs) (option_and_then (λ lines. cond (is_some (least_order n bs lines)) None (Some (order_cause bs lines))) (all_some (map (lin t) bs))) (Some DuplicateBase)) limits

  pub refused-alike : (bs : List ℕ) → refused_bases (renamed f t) bs ≡ refused_bases t bs
  refused-alike bs = ap (λ o. option_or o (refused_order (renamed f t) bs)) (layout-alike bs) ∙ ap (option_or (refused_layout t bs)) (order-alike bs)
