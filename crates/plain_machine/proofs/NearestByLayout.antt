-- A class's nearest built-in class is the last built-in one of its layout: classes with one layout hold the like.
use Rattle.plain_machine.proofs.Below.{ℕ, Bool, true, false, cond, List, [], Option, Some, None, refl, sym, ap, ◌∙◌, nat_lt, slice_get, option_map, option_and_then, append-nil, all_built_ins, Classes, class_at, or_else, lin, built_ins, has_members, is_solid, layout_along, layout, first_with, nearest_built_in, holds_as, held_by}
use Rattle.std.proofs.Common.{◌≡◌, ◌||◌, ◌∷◌, ◌++◌}

-- the last of some classes that is built in
abbrev last_built_in : List ℕ → Option ℕ
last_built_in [] = None
last_built_in (x ∷ xs) = or_else (last_built_in xs) (cond (nat_lt x built_ins) (Some x) None)

last-append : (xs : List ℕ) (y : ℕ) → last_built_in (xs ++ y ∷ []) ≡ cond (nat_lt y built_ins) (Some y) (last_built_in xs)
last-append [] y = refl
last-append (x ∷ xs) y =
    ap (λ o. or_else o (cond (nat_lt x built_ins) (Some x) None)) (last-append xs y) ∙ elim (nat_lt y built_ins) as (λ b. or_else (cond b (Some y) (last_built_in xs)) (cond (nat_lt x built_ins) (Some x) None) ≡ cond b (Some y) (last_built_in (x ∷ xs))) [ true ↦ refl | false ↦ refl ]

module _ {K : Type 0} where
  -- along a line the first built-in class comes last in the layout
  last-along : (t : Classes K) (line : List ℕ) → first_with (λ d. nat_lt d built_ins) line ≡ last_built_in (layout_along t line)
  last-along t [] = refl
  last-along t (c ∷ cs) = go (nat_lt c built_ins) refl (last-along t cs)
    where
      rest : (b : Bool) → nat_lt c built_ins ≡ false → last_built_in (layout_along t cs ++ cond b (c ∷ []) []) ≡ last_built_in (layout_along t cs)
      rest true e = last-append (layout_along t cs) c ∙ ap (λ b. cond b (Some c) (last_built_in (layout_along t cs))) e
      rest false e = ap last_built_in (append-nil (layout_along t cs))

      go : (b : Bool) → nat_lt c built_ins ≡ b → first_with (λ d. nat_lt d built_ins) cs ≡ last_built_in (layout_along t cs) → first_with (λ d. nat_lt d built_ins) (c ∷ cs) ≡ last_built_in (layout_along t (c ∷ cs))
      go true e more =
          let one = ap (λ b. cond b (Some c) (first_with (λ d. nat_lt d built_ins) cs)) e in
          let two = ap (λ b. last_built_in (layout_along t cs ++ cond (b || has_members (class_at t c)) (c ∷ []) [])) e in
          let three = last-append (layout_along t cs) c ∙ ap (λ b. cond b (Some c) (last_built_in (layout_along t cs))) e in
          one ∙ sym (two ∙ three)
      go false e more =
          ap (λ b. cond b (Some c) (first_with (λ d. nat_lt d built_ins) cs)) e ∙ more ∙ sym (rest (is_solid t c) e)

  nearest-layout : (t : Classes K) (c : ℕ) → nearest_built_in t c ≡ option_and_then last_built_in (layout t c)
  nearest-layout t c =
      elim (lin t c) as (λ o. option_and_then (first_with (λ d. nat_lt d built_ins)) o ≡ option_and_then last_built_in (option_and_then (λ line. Some (layout_along t line)) o)) [ None ↦ refl | Some line ↦ last-along t line ]

  -- so it is the same where the layouts are
  pub nearest-by_layout : (t u : Classes K) (c d : ℕ) → layout t c ≡ layout u d → nearest_built_in t c ≡ nearest_built_in u d
  nearest-by_layout t u c d e = nearest-layout t c ∙ ap (option_and_then last_built_in) e ∙ sym (nearest-layout u d)

  pub held-by_layout : (t u : Classes K) (c d : ℕ) → layout t c ≡ layout u d → held_by t c ≡ held_by u d
  held-by_layout t u c d e =
      ap (λ o. option_map holds_as (option_and_then (slice_get all_built_ins) o)) (nearest-by_layout t u c d e)
