-- Other names for classes change nothing else.
use Rattle.class_table.proofs.Below.{ℕ, Bool, true, false, cond, not, eqb, List, [], map, length, Option, Some, None, refl, sym, ap, ◌∙◌, nat_lt, is_some, is_none, option_map, option_and_then, option_or, length-map, Cause, EmptyBases, NotBaseType, LayoutConflict, DuplicateBase, ImmutableType, InheritanceCycle, LayoutDiffers, linear, is_distinct, least_order, all_some, Class, Classes, class_at, is_class, bases_of, lin, is_along, is_sub, with_changed, with_class_name, with_bases, order_cause, blamed_along, caused, failing, alike, has_dict, says_dict, any_has_dict, dict_with, keeps_dict, built_ins, is_empty, has_members, is_solid, solid, solid_within, base, best_of, numbers_of, past_all, limit, is_heap_at, bind-agrees, linear-same, first_best-agrees, solid_within-same, base-agrees, any_derives, is_same, unless, refused_shape, refused_change, refused_rebase, Refusal, is_base_at, most_derived, are_apart, refused_attr, refused_base, refused_after, refused_layout, refused_lines, refused_order, refused_bases, unnamed}
use Rattle.std.proofs.Common.{◌≡◌, ◌&&◌, ◌||◌, ◌∷◌, ◌++◌}

module _ {K : Type 0} where
  -- what doesn't see the name of a class sees the same
  pub at-unnamed : {A : Type 0} (g : Option (Class K) → A) → ((k : Class K) → g (Some (unnamed k)) ≡ g (Some k)) → (t : Classes K) (c : ℕ) → g (class_at (map unnamed t) c) ≡ g (class_at t c)
  at-unnamed g i [] c = refl
  at-unnamed g i (k ∷ t) c =
      elim (eqb k.number c) as (λ b. g (cond b (Some (unnamed k)) (class_at (map unnamed t) c)) ≡ g (cond b (Some k) (class_at t c))) [ true ↦ i k | false ↦ at-unnamed g i t c ]

  pub unnamed-twice : (t : Classes K) → map unnamed (map unnamed t) ≡ map unnamed t
  unnamed-twice [] = refl
  unnamed-twice (k ∷ t) = ap (λ (u : Classes K). unnamed k ∷ u) (unnamed-twice t)

  pub unnamed-push : (t : Classes K) (k : Class K) → map unnamed (t ++ k ∷ []) ≡ map unnamed t ++ unnamed k ∷ []
  unnamed-push [] k = refl
  unnamed-push (j ∷ t) k = ap (λ (u : Classes K). unnamed j ∷ u) (unnamed-push t k)

  -- a change of a class that leaves names as they are
  pub unnamed-changed : (f : Class K → Class K) → ((k : Class K) → unnamed (f k) ≡ f (unnamed k)) → (t : Classes K) (c : ℕ) → map unnamed (with_changed f t c) ≡ with_changed f (map unnamed t) c
  unnamed-changed f i [] c = refl
  unnamed-changed f i (k ∷ t) c =
      elim (eqb k.number c) as (λ b. map unnamed (cond b (f k ∷ t) (k ∷ with_changed f t c)) ≡ cond b (f (unnamed k) ∷ map unnamed t) (unnamed k ∷ with_changed f (map unnamed t) c)) [
        | true ↦ ap (λ (j : Class K). j ∷ map unnamed t) (i k)
        | false ↦ ap (λ (u : Classes K). unnamed k ∷ u) (unnamed-changed f i t c)
      ]

  pub unnamed-called : (t : Classes K) (c : ℕ) (x : List ℕ) → map unnamed (with_class_name t c x) ≡ map unnamed t
  unnamed-called [] c x = refl
  unnamed-called (k ∷ t) c x =
      elim (eqb k.number c) as (λ b. map unnamed (cond b (record k { name = x } ∷ t) (k ∷ with_class_name t c x)) ≡ unnamed k ∷ map unnamed t) [
        | true ↦ refl
        | false ↦ ap (λ (u : Classes K). unnamed k ∷ u) (unnamed-called t c x)
      ]

  pub bases-unnamed : (t : Classes K) (c : ℕ) (bs : List ℕ) → map unnamed (with_bases t c bs) ≡ with_bases (map unnamed t) c bs
  bases-unnamed t c bs = unnamed-changed (λ k. record k { bases = bs }) (λ k. refl) t c

  pub numbers-unnamed : (t : Classes K) → numbers_of (map unnamed t) ≡ numbers_of t
  numbers-unnamed [] = refl
  numbers-unnamed (k ∷ t) = ap (λ (ns : List ℕ). k.number ∷ ns) (numbers-unnamed t)

  pub limit-unnamed : (t : Classes K) → limit (map unnamed t) ≡ limit t
  limit-unnamed t = ap past_all (numbers-unnamed t)

  pub class-unnamed : (t : Classes K) (c : ℕ) → is_class (map unnamed t) c ≡ is_class t c
  class-unnamed t c = at-unnamed is_some (λ k. refl) t c

  length-unnamed : (t : Classes K) → length (map unnamed t) ≡ length t
  length-unnamed t = length-map t unnamed

  bases_of-unnamed : (t : Classes K) (c : ℕ) → bases_of (map unnamed t) c ≡ bases_of t c
  bases_of-unnamed t c = at-unnamed (option_map (λ (k : Class K). k.bases)) (λ k. refl) t c

  lin-unnamed : (t : Classes K) (c : ℕ) → lin (map unnamed t) c ≡ lin t c
  lin-unnamed t c =
      linear-same (bases_of (map unnamed t)) (bases_of t) (bases_of-unnamed t) (length (map unnamed t)) c ∙ ap (λ n. linear (bases_of t) n c) (length-unnamed t)

  is_sub-unnamed : (t : Classes K) (c d : ℕ) → is_sub (map unnamed t) c d ≡ is_sub t c d
  is_sub-unnamed t c d = ap (is_along d) (lin-unnamed t c)

  has_dict-unnamed : (t : Classes K) (c : ℕ) → has_dict (map unnamed t) c ≡ has_dict t c
  has_dict-unnamed t c = at-unnamed says_dict (λ k. refl) t c

  pub dicts-unnamed : (t : Classes K) (bs : List ℕ) → any_has_dict (map unnamed t) bs ≡ any_has_dict t bs
  dicts-unnamed t [] = refl
  dicts-unnamed t (b ∷ bs) =
      ap (λ v. v || any_has_dict (map unnamed t) bs) (has_dict-unnamed t b) ∙ ap (λ v. has_dict t b || v) (dicts-unnamed t bs)

  is_solid-unnamed : (t : Classes K) (c : ℕ) → is_solid (map unnamed t) c ≡ is_solid t c
  is_solid-unnamed t c = ap (λ b. nat_lt c built_ins || b) (at-unnamed has_members (λ k. refl) t c)

  solid-unnamed : (t : Classes K) (c : ℕ) → solid (map unnamed t) c ≡ solid t c
  solid-unnamed t c =
      solid_within-same (map unnamed t) t (λ x. Unit {0}) (λ x bs b p e h. tt) (λ x p. bases_of-unnamed t x) (λ x p. lin-unnamed t x) (λ x p. is_solid-unnamed t x) (length (map unnamed t)) c tt ∙ ap (λ n. solid_within t n c) (length-unnamed t)

  base-unnamed : (t : Classes K) (c : ℕ) → base (map unnamed t) c ≡ base t c
  base-unnamed t c =
      base-agrees (map unnamed t) t (λ x. Unit {0}) (λ x bs b p e h. tt) (λ x p. bases_of-unnamed t x) (λ x p. lin-unnamed t x) (λ x p. is_solid-unnamed t x) c tt (λ b p. solid-unnamed t b)

  best_of-unnamed : (t : Classes K) (bs : List ℕ) → best_of (map unnamed t) bs ≡ best_of t bs
  best_of-unnamed t bs =
      first_best-agrees (map unnamed t) t (λ x. Unit {0}) (λ x bs b p e h. tt) (λ x p. bases_of-unnamed t x) (λ x p. lin-unnamed t x) (λ x p. is_solid-unnamed t x) (solid (map unnamed t)) (solid t) bs bs (λ b h. solid-unnamed t b) (λ b d h k. tt) (λ b h. h)

-- why a class or a change is refused
module _ {K : Type 0} (t : Classes K) where
  abbrev u : Classes K
  u = map unnamed t

  apart-unnamed : (o p : Option ℕ) → are_apart u o p ≡ are_apart t o p
  apart-unnamed None p = refl
  apart-unnamed (Some c) None = refl
  apart-unnamed (Some c) (Some d) =
      ap (λ v. not (v || is_sub u d c)) (is_sub-unnamed t c d) ∙ ap (λ v. not (is_sub t c d || v)) (is_sub-unnamed t d c)

  most-unnamed : (bs : List ℕ) → most_derived u bs ≡ most_derived t bs
  most-unnamed bs = bind-agrees (solid u) (solid t) (best_of u bs) (best_of t bs) (best_of-unnamed t bs) (λ x e. solid-unnamed t x)

  base-refused : (before : List ℕ) (b : ℕ) → refused_base u before b ≡ refused_base t before b
  base-refused before b =
      ap (λ v. cond v (cond (are_apart u (most_derived u before) (solid u b)) (Some LayoutConflict) None) (Some NotBaseType)) (at-unnamed is_base_at (λ k. refl) t b)
      ∙ ap (λ v. cond (is_base_at (class_at t b)) (cond v (Some LayoutConflict) None) (Some NotBaseType)) (
      apart-unnamed (most_derived u before) (solid u b)
      ∙ ap (λ o. are_apart t o (solid u b)) (most-unnamed before)
      ∙ ap (are_apart t (most_derived t before)) (solid-unnamed t b)
      )

  after-refused : (bs before : List ℕ) → refused_after u before bs ≡ refused_after t before bs
  after-refused [] before = refl
  after-refused (b ∷ bs) before =
      ap (λ o. option_or o (refused_after u (before ++ b ∷ []) bs)) (base-refused before b) ∙ ap (option_or (refused_base t before b)) (after-refused bs (before ++ b ∷ []))

  layout-refused : (bs : List ℕ) → refused_layout u bs ≡ refused_layout t bs
  layout-refused [] = refl
  layout-refused (b ∷ bs) = after-refused (b ∷ bs) []

  lines-unnamed : (bs : List ℕ) → map (lin u) bs ≡ map (lin t) bs
  lines-unnamed [] = refl
  lines-unnamed (b ∷ bs) = let here = lin-unnamed t b in let rest = lines-unnamed bs in cc (here, rest)

  order-refused : (bs : List ℕ) → refused_order u bs ≡ refused_order t bs
  order-refused bs =
      ap (λ os. cond (is_distinct bs) (option_and_then (refused_lines u bs) (all_some os)) (Some DuplicateBase)) (lines-unnamed bs)
      ∙ ap (λ n. cond (is_distinct bs) (option_and_then (λ lines. cond (is_some (least_order n bs lines)) None (Some (order_cause bs lines))) (all_some (map (lin t) bs))) (Some DuplicateBase)) (limit-unnamed t)

  pub bases-refused : (bs : List ℕ) → refused_bases u bs ≡ refused_bases t bs
  bases-refused bs = ap (λ o. option_or o (refused_order u bs)) (layout-refused bs) ∙ ap (option_or (refused_layout t bs)) (order-refused bs)

  pub attr-refused : (c : ℕ) → refused_attr u c ≡ refused_attr t c
  attr-refused c = ap (λ b. cond b None (Some ImmutableType)) (at-unnamed is_heap_at (λ k. refl) t c)

  pub single-refused : (b : ℕ) → is_base_at (class_at u b) ≡ is_base_at (class_at t b)
  single-refused b = at-unnamed is_base_at (λ k. refl) t b

  derives-unnamed : (bs : List ℕ) (c : ℕ) → any_derives u bs c ≡ any_derives t bs c
  derives-unnamed [] c = refl
  derives-unnamed (b ∷ bs) c =
      ap (λ v. v || any_derives u bs c) (is_sub-unnamed t b c) ∙ ap (λ v. is_sub t b c || v) (derives-unnamed bs c)

  keeps-unnamed : (c : ℕ) (bs : List ℕ) → keeps_dict u c bs ≡ keeps_dict t c bs
  keeps-unnamed c bs =
      ap (λ b. alike b (has_dict u c)) (at-unnamed (λ o. dict_with u o bs) (λ k. refl) t c ∙ own (class_at t c)) ∙ ap (alike (dict_with t (class_at t c) bs)) (has_dict-unnamed t c)
    where
      own : (o : Option (Class K)) → dict_with u o bs ≡ dict_with t o bs
      own None = refl
      own (Some k) = ap (λ b. k.brings || b) (dicts-unnamed t bs)

  shape-refused : (c : ℕ) (bs : List ℕ) → refused_shape u c bs ≡ refused_shape t c bs
  shape-refused c bs =
      let old : option_and_then (solid u) (base u c) ≡ option_and_then (solid t) (base t c) = bind-agrees (solid u) (solid t) (base u c) (base t c) (base-unnamed t c) (λ x e. solid-unnamed t x) in
      let rest : Option ℕ → Option ℕ → Bool → Option Cause = λ o p b. option_or (unless (is_same o p) LayoutDiffers) (option_or (unless b LayoutDiffers) (unless (is_distinct bs) DuplicateBase)) in
      ap (λ o. option_or o (rest (most_derived u bs) (option_and_then (solid u) (base u c)) (keeps_dict u c bs))) (layout-refused bs)
      ∙ ap (λ o. option_or (refused_layout t bs) (rest o (option_and_then (solid u) (base u c)) (keeps_dict u c bs))) (most-unnamed bs)
      ∙ ap (λ o. option_or (refused_layout t bs) (rest (most_derived t bs) o (keeps_dict u c bs))) old
      ∙ ap (λ b. option_or (refused_layout t bs) (rest (most_derived t bs) (option_and_then (solid t) (base t c)) b)) (keeps-unnamed c bs)

  change-refused : (c : ℕ) (bs : List ℕ) → refused_change u c bs ≡ refused_change t c bs
  change-refused c bs =
      let empty : Option Cause = cond (is_empty bs) (Some EmptyBases) None in
      let late : Bool → Option Cause → Option Cause = λ b shape. option_or empty (option_or (cond b (Some InheritanceCycle) None) shape) in
      ap (λ o. option_or o (late (any_derives u bs c) (refused_shape u c bs))) (attr-refused c)
      ∙ ap (λ b. option_or (refused_attr t c) (late b (refused_shape u c bs))) (derives-unnamed bs c)
      ∙ ap (λ o. option_or (refused_attr t c) (late (any_derives t bs c) o)) (shape-refused c bs)

  all-lines : ◌≡◌ {A = ℕ → Option (List ℕ)} (lin u) (lin t)
  all-lines = λ i c. lin-unnamed t c i

  blamed-unnamed : (ks : Classes K) → blamed_along u (map unnamed ks) ≡ blamed_along t ks
  blamed-unnamed [] = refl
  blamed-unnamed (k ∷ ks) =
      ap (λ l. cond (is_some (all_some (map l k.bases)) && is_none (l k.number)) (Some k.number) (blamed_along u (map unnamed ks))) all-lines
      ∙ ap (cond (is_some (all_some (map (lin t) k.bases)) && is_none (lin t k.number)) (Some k.number)) (blamed-unnamed ks)

  caused-unnamed : (d : ℕ) → caused u d ≡ caused t d
  caused-unnamed d =
      let by : (ℕ → Option (List ℕ)) → Option (List ℕ) → Option (ℕ × Cause) = λ l o. option_and_then (λ bs. option_map (λ lines. (d, order_cause bs lines)) (all_some (map l bs))) o in
      ap (λ l. by l (bases_of u d)) all-lines ∙ ap (by (lin t)) (bases_of-unnamed t d)

-- the least-numbered class that is to blame, and the cause
abbrev blame : {K : Type 0} → Classes K → Option (ℕ × Cause)
blame t = option_and_then (caused t) (blamed_along t t)

blame-unnamed : {K : Type 0} (t : Classes K) → blame (map unnamed t) ≡ blame t
blame-unnamed t =
    bind-agrees (caused (map unnamed t)) (caused t) (blamed_along (map unnamed t) (map unnamed t)) (blamed_along t t) (blamed-unnamed t t) (λ d e. caused-unnamed t d)

pub rebase-refused : {K : Type 0} (t : Classes K) (c : ℕ) (bs : List ℕ) → refused_rebase (map unnamed t) c bs ≡ refused_rebase t c bs
rebase-refused t c bs =
    let failed : failing (map unnamed t) c bs ≡ failing t c bs = ap blame (sym (bases-unnamed t c bs)) ∙ blame-unnamed (with_bases t c bs) in
    let both : Option Cause → Option (ℕ × Cause) → Option Refusal = λ early late. option_or (option_map (λ cause. (cause, None)) early) (option_map (λ r. (r.1, Some r.0)) late) in
    ap (λ o. both o (failing (map unnamed t) c bs)) (change-refused t c bs) ∙ ap (both (refused_change t c bs)) failed
