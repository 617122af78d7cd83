-- The causes for which a class is refused, as they are defined and in words.
use Rattle.class_table.proofs.Below.{ℕ, zero, suc, Bool, true, false, cond, List, [], map, length, take, Option, Some, None, Result, Ok, Err, inl, inr, refl, sym, ap, ◌∙◌, arith, append-nil, append_assoc, is_some, slice_get, option_and_then, option_or, false_from_ne_true, Cause, EmptyBases, NotBaseType, LayoutConflict, DuplicateBase, LocalPrecedence, MroConflict, is_distinct, least_order, all_some, Includes, Distinct, IsOrder, Classes, class_at, lin, limit, solid, breaks_precedence, order_cause, Decides-distinct, least_order-order, least_order-none, all_some-map, all_some-some, lines-below, breaks-to, breaks-from, least_order-no_base, ClassFault, Refused, RefusedAt, refusal, WithMemory, IsEarly, is_base_at, most_derived, are_apart, refused_base, refused_after, refused_layout, refused_lines, refused_order, refused_bases, Fits, AllFit, LacksBase, HasLayoutConflict, HasDuplicate, AreLined, BreaksOrder, HasNoLine, AreTold}
use Rattle.std.proofs.Common.{◌≡◌, ◌<◌, ◌∷◌, ◌++◌, ◌⊎◌}
use Rattle.std.specs.Prelude.{◌↔◌}
use Rattle.class_table.proofs.MroMerge.Precedence.{broken-none}
use Rattle.class_table.specs.declared.fault.ClassFault.TheVariants.{OutOfMemory}
use Rattle.class_table.proofs.Orders.{lines-of}

abbrev by_tests : Bool → Bool → Option Cause
by_tests v w = cond v (cond w (Some LayoutConflict) None) (Some NotBaseType)

tests-none : (v w : Bool) → by_tests v w ≡ None → (v ≡ true) × (w ≡ false)
tests-none true true e = cc
tests-none true false e = (refl, refl)
tests-none false w e = cc

tests-base : (v w : Bool) → by_tests v w ≡ Some NotBaseType → v ≡ false
tests-base true true e = cc
tests-base true false e = cc
tests-base false w e = refl

tests-layout : (v w : Bool) → by_tests v w ≡ Some LayoutConflict → (v ≡ true) × (w ≡ true)
tests-layout true true e = (refl, refl)
tests-layout true false e = cc
tests-layout false w e = cc

tests-cause : (v w : Bool) (c : Cause) → by_tests v w ≡ Some c → (c ≡ NotBaseType) ⊎ (c ≡ LayoutConflict)
tests-cause true true c e = inr (cc)
tests-cause true false c e = cc
tests-cause false w c e = inl (cc)

module _ {K : Type 0} (t : Classes K) where
  -- the first that fails after those before
  record IsFirst (before bs : List ℕ) (cause : Cause) : Type 0 where
    place : ℕ
    base : ℕ
    at : slice_get bs place ≡ Some base
    why : refused_base t (before ++ take place bs) base ≡ Some cause
    passed : (i b : ℕ) → i < place → slice_get bs i ≡ Some b → refused_base t (before ++ take i bs) b ≡ None

  here : (before : List ℕ) (b : ℕ) → refused_base t (before ++ []) b ≡ refused_base t before b
  here before b = ap (λ bs. refused_base t bs b) (append-nil before)

  later : (before : List ℕ) (b : ℕ) (rest : List ℕ) (x : ℕ) → refused_base t (before ++ b ∷ rest) x ≡ refused_base t ((before ++ b ∷ []) ++ rest) x
  later before b rest x = ap (λ bs. refused_base t bs x) (sym (append_assoc before (b ∷ []) rest))

  after-some : (bs before : List ℕ) (cause : Cause) → refused_after t before bs ≡ Some cause → IsFirst before bs cause
  after-some [] before cause e = cc
  after-some (b ∷ bs) before cause e = go (refused_base t before b) refl e (after-some bs (before ++ b ∷ []) cause)
    where
      go : (o : Option Cause) → refused_base t before b ≡ o → option_or o (refused_after t (before ++ b ∷ []) bs) ≡ Some cause → (refused_after t (before ++ b ∷ []) bs ≡ Some cause → IsFirst (before ++ b ∷ []) bs cause) → IsFirst before (b ∷ bs) cause
      go (Some c) f e more = record { place = 0; base = b; at = refl; why = here before b ∙ f ∙ e; passed = λ i x l h. absurd (omega arith) }
      go None f e more =
          let r = more e in
          record { place = suc r.place; base = r.base; at = r.at; why = later before b (take r.place bs) r.base ∙ r.why; passed = passed r.place r.passed }
        where
          passed : (p : ℕ) → ((i x : ℕ) → i < p → slice_get bs i ≡ Some x → refused_base t ((before ++ b ∷ []) ++ take i bs) x ≡ None) → (i x : ℕ) → i < suc p → slice_get (b ∷ bs) i ≡ Some x → refused_base t (before ++ take i (b ∷ bs)) x ≡ None
          passed p h zero x l q = let s : b ≡ x = cc in ap (refused_base t (before ++ [])) (sym s) ∙ here before b ∙ f
          passed p h (suc i) x l q = later before b (take i bs) x ∙ h i x (omega arith) q

  some-after : (bs before : List ℕ) (cause : Cause) (p x : ℕ) → slice_get bs p ≡ Some x → refused_base t (before ++ take p bs) x ≡ Some cause → ((i b : ℕ) → i < p → slice_get bs i ≡ Some b → refused_base t (before ++ take i bs) b ≡ None) → refused_after t before bs ≡ Some cause
  some-after [] before cause p x e w h = cc
  some-after (b ∷ bs) before cause zero x e w h =
      let s : b ≡ x = cc in
      ap (λ o. option_or o (refused_after t (before ++ b ∷ []) bs)) (sym (here before b) ∙ ap (refused_base t (before ++ [])) s ∙ w)
  some-after (b ∷ bs) before cause (suc p) x e w h =
      let first = sym (here before b) ∙ h 0 b (omega arith) refl in
      let rest = some-after bs (before ++ b ∷ []) cause p x e (sym (later before b (take p bs) x) ∙ w) (λ i y l q. sym (later before b (take i bs) y) ∙ h (suc i) y (omega arith) q) in
      ap (λ o. option_or o (refused_after t (before ++ b ∷ []) bs)) first ∙ rest

  none-after : (bs before : List ℕ) → ((i b : ℕ) → i < length bs → slice_get bs i ≡ Some b → refused_base t (before ++ take i bs) b ≡ None) → refused_after t before bs ≡ None
  none-after [] before h = refl
  none-after (b ∷ bs) before h =
      let first = sym (here before b) ∙ h 0 b (omega arith) refl in
      let rest = none-after bs (before ++ b ∷ []) (λ i y l q. sym (later before b (take i bs) y) ∙ h (suc i) y (omega arith) q) in
      ap (λ o. option_or o (refused_after t (before ++ b ∷ []) bs)) first ∙ rest

  after-none : (bs before : List ℕ) → refused_after t before bs ≡ None → (i b : ℕ) → slice_get bs i ≡ Some b → refused_base t (before ++ take i bs) b ≡ None
  after-none [] before e i b q = cc
  after-none (c ∷ bs) before e i b q = go (refused_base t before c) refl e (after-none bs (before ++ c ∷ [])) i q
    where
      go : (o : Option Cause) → refused_base t before c ≡ o → option_or o (refused_after t (before ++ c ∷ []) bs) ≡ None → (refused_after t (before ++ c ∷ []) bs ≡ None → (i b : ℕ) → slice_get bs i ≡ Some b → refused_base t ((before ++ c ∷ []) ++ take i bs) b ≡ None) → (i : ℕ) → slice_get (c ∷ bs) i ≡ Some b → refused_base t (before ++ take i (c ∷ bs)) b ≡ None
      go (Some d) f e more i q = cc
      go None f e more zero q = let s : c ≡ b = cc in ap (refused_base t (before ++ [])) (sym s) ∙ here before c ∙ f
      go None f e more (suc i) q = later before c (take i bs) b ∙ more e i b q

  -- what fits is not refused
  fit-of : (bs : List ℕ) (i b : ℕ) → refused_base t (take i bs) b ≡ None → Fits t bs i b
  fit-of bs i b e = let q = tests-none (is_base_at (class_at t b)) (are_apart t (most_derived t (take i bs)) (solid t b)) e in record { may = q.0; layout = q.1 }

  of-fit : (bs : List ℕ) (i b : ℕ) → Fits t bs i b → refused_base t (take i bs) b ≡ None
  of-fit bs i b f = ap (λ v. by_tests v (are_apart t (most_derived t (take i bs)) (solid t b))) f.may ∙ ap (by_tests true) f.layout

  layout-first : (bs : List ℕ) (cause : Cause) → refused_layout t bs ≡ Some cause → (cause ≡ EmptyBases → ⊥) → IsFirst [] bs cause
  layout-first [] cause e n = absurd (n (cc))
  layout-first (b ∷ bs) cause e n = after-some (b ∷ bs) [] cause e

  first-layout : (bs : List ℕ) (cause : Cause) (p x : ℕ) → slice_get bs p ≡ Some x → refused_base t (take p bs) x ≡ Some cause → AllFit t bs p → refused_layout t bs ≡ Some cause
  first-layout [] cause p x e w h = cc
  first-layout (b ∷ bs) cause p x e w h = some-after (b ∷ bs) [] cause p x e w (λ i y l q. of-fit (b ∷ bs) i y (h i y l q))

  empty-words : (bs : List ℕ) → (refused_layout t bs ≡ Some EmptyBases) ↔ (bs ≡ [])
  empty-words [] = (λ e. refl, λ e. refl)
  empty-words (b ∷ bs) = (λ e. go (after-some (b ∷ bs) [] EmptyBases e), λ e. cc)
    where
      go : IsFirst [] (b ∷ bs) EmptyBases → b ∷ bs ≡ []
      go r = elim (tests-cause (is_base_at (class_at t r.base)) (are_apart t (most_derived t (take r.place (b ∷ bs))) (solid t r.base)) EmptyBases r.why) [ inl q ↦ cc | inr q ↦ cc ]

  base-words : (bs : List ℕ) → (refused_layout t bs ≡ Some NotBaseType) ↔ LacksBase t bs
  base-words bs = (
    λ e.
        let r = layout-first bs NotBaseType e (λ q. cc) in
        record { place = r.place; base = r.base; at = r.at; before = λ i b l q. fit-of bs i b (r.passed i b l q); lacks = tests-base (is_base_at (class_at t r.base)) (are_apart t (most_derived t (take r.place bs)) (solid t r.base)) r.why },
    λ w. first-layout bs NotBaseType w.place w.base w.at (ap (λ v. by_tests v (are_apart t (most_derived t (take w.place bs)) (solid t w.base))) w.lacks) w.before,
  )

  layout-words : (bs : List ℕ) → (refused_layout t bs ≡ Some LayoutConflict) ↔ HasLayoutConflict t bs
  layout-words bs = (
    λ e.
        let r = layout-first bs LayoutConflict e (λ q. cc) in
        let q = tests-layout (is_base_at (class_at t r.base)) (are_apart t (most_derived t (take r.place bs)) (solid t r.base)) r.why in
        record { place = r.place; base = r.base; at = r.at; before = λ i b l q. fit-of bs i b (r.passed i b l q); may = q.0; apart = q.1 },
    λ w. first-layout bs LayoutConflict w.place w.base w.at (ap (λ v. by_tests v (are_apart t (most_derived t (take w.place bs)) (solid t w.base))) w.may ∙ ap (by_tests true) w.apart) w.before,
  )

  fit-all : (bs : List ℕ) → refused_layout t bs ≡ None → AllFit t bs (length bs)
  fit-all [] e i b l q = cc
  fit-all (c ∷ bs) e i b l q = fit-of (c ∷ bs) i b (after-none (c ∷ bs) [] e i b q)

  all-fit : (c : ℕ) (bs : List ℕ) → AllFit t (c ∷ bs) (length (c ∷ bs)) → refused_layout t (c ∷ bs) ≡ None
  all-fit c bs h = none-after (c ∷ bs) [] (λ i b l q. of-fit (c ∷ bs) i b (h i b l q))

  -- the layout's causes and those of the order
  layout-cause : (bs : List ℕ) (c : Cause) → refused_layout t bs ≡ Some c → (c ≡ EmptyBases) ⊎ ((c ≡ NotBaseType) ⊎ (c ≡ LayoutConflict))
  layout-cause [] c e = inl (cc)
  layout-cause (b ∷ bs) c e =
      let r = after-some (b ∷ bs) [] c e in
      inr (tests-cause (is_base_at (class_at t r.base)) (are_apart t (most_derived t (take r.place (b ∷ bs))) (solid t r.base)) c r.why)

  order-cause : (bs : List ℕ) (c : Cause) → refused_order t bs ≡ Some c → (c ≡ DuplicateBase) ⊎ ((c ≡ LocalPrecedence) ⊎ (c ≡ MroConflict))
  order-cause bs c e = go (is_distinct bs) (all_some (map (lin t) bs)) e
    where
      told : (ls : List (List ℕ)) (o : Option (List ℕ)) (w : Bool) → cond (is_some o) None (Some (cond w LocalPrecedence MroConflict)) ≡ Some c → (c ≡ DuplicateBase) ⊎ ((c ≡ LocalPrecedence) ⊎ (c ≡ MroConflict))
      told ls (Some xs) w e = cc
      told ls None true e = inr (inl (cc))
      told ls None false e = inr (inr (cc))

      go : (d : Bool) (o : Option (List (List ℕ))) → cond d (option_and_then (refused_lines t bs) o) (Some DuplicateBase) ≡ Some c → (c ≡ DuplicateBase) ⊎ ((c ≡ LocalPrecedence) ⊎ (c ≡ MroConflict))
      go true (Some ls) e = told ls (least_order (limit t) bs ls) (breaks_precedence bs ls) e
      go true None e = cc
      go false o e = inl (cc)

  -- the cause of the layout comes first, and else that of the order
  from-layout : (bs : List ℕ) (c : Cause) → (refused_order t bs ≡ Some c → ⊥) → refused_bases t bs ≡ Some c → refused_layout t bs ≡ Some c
  from-layout bs c n e = go (refused_layout t bs) e
    where
      go : (o : Option Cause) → option_or o (refused_order t bs) ≡ Some c → o ≡ Some c
      go None e = absurd (n e)
      go (Some d) e = e

  from-order : (bs : List ℕ) (c : Cause) → (refused_layout t bs ≡ Some c → ⊥) → refused_bases t bs ≡ Some c → (refused_layout t bs ≡ None) × (refused_order t bs ≡ Some c)
  from-order bs c n e = go (refused_layout t bs) refl e
    where
      go : (o : Option Cause) → refused_layout t bs ≡ o → option_or o (refused_order t bs) ≡ Some c → (refused_layout t bs ≡ None) × (refused_order t bs ≡ Some c)
      go None f e = (f, e)
      go (Some d) f e = absurd (n (f ∙ e))

  no-early : (bs : List ℕ) (c : Cause) → (c ≡ EmptyBases → ⊥) → (c ≡ NotBaseType → ⊥) → (c ≡ LayoutConflict → ⊥) → refused_layout t bs ≡ Some c → ⊥
  no-early bs c a b d e = elim (layout-cause bs c e) [ inl q ↦ a q | inr q ↦ elim q [ inl r ↦ b r | inr r ↦ d r ] ]

  no-late : (bs : List ℕ) (c : Cause) → (c ≡ DuplicateBase → ⊥) → (c ≡ LocalPrecedence → ⊥) → (c ≡ MroConflict → ⊥) → refused_order t bs ≡ Some c → ⊥
  no-late bs c a b d e = elim (order-cause bs c e) [ inl q ↦ a q | inr q ↦ elim q [ inl r ↦ b r | inr r ↦ d r ] ]

  -- the parts of the refusal of an order
  record IsUnordered (bs : List ℕ) (c : Cause) : Type 0 where
    lines : List (List ℕ)
    distinct : is_distinct bs ≡ true
    lines_of : map (lin t) bs ≡ map Some lines
    none : least_order (limit t) bs lines ≡ None
    cause : order_cause bs lines ≡ c

  unordered : (bs : List ℕ) (c : Cause) → (c ≡ DuplicateBase → ⊥) → refused_order t bs ≡ Some c → IsUnordered bs c
  unordered bs c n e = go (is_distinct bs) refl (all_some (map (lin t) bs)) refl e
    where
      told : (ls : List (List ℕ)) → is_distinct bs ≡ true → map (lin t) bs ≡ map Some ls → (o : Option (List ℕ)) → least_order (limit t) bs ls ≡ o → cond (is_some o) None (Some (order_cause bs ls)) ≡ Some c → IsUnordered bs c
      told ls d l (Some xs) f e = cc
      told ls d l None f e = record { lines = ls; distinct = d; lines_of = l; none = f; cause = cc }

      go : (d : Bool) → is_distinct bs ≡ d → (o : Option (List (List ℕ))) → all_some (map (lin t) bs) ≡ o → cond d (option_and_then (refused_lines t bs) o) (Some DuplicateBase) ≡ Some c → IsUnordered bs c
      go true d (Some ls) l e = told ls d (all_some-map (map (lin t) bs) ls l) (least_order (limit t) bs ls) refl e
      go true d None l e = cc
      go false d o l e = absurd (n (cc))

  from-unordered : (bs : List ℕ) (c : Cause) → refused_layout t bs ≡ None → IsUnordered bs c → refused_bases t bs ≡ Some c
  from-unordered bs c l u =
      ap (λ o. option_or o (refused_order t bs)) l
      ∙ ap (λ d. cond d (option_and_then (refused_lines t bs) (all_some (map (lin t) bs))) (Some DuplicateBase)) u.distinct
      ∙ ap (option_and_then (refused_lines t bs)) (ap all_some u.lines_of ∙ all_some-some u.lines)
      ∙ ap (λ o. cond (is_some o) None (Some (order_cause bs u.lines))) u.none
      ∙ ap Some u.cause

  twice-refused : (bs : List ℕ) → refused_order t bs ≡ Some DuplicateBase → Distinct bs → ⊥
  twice-refused bs e d = go (is_distinct bs) ((Decides-distinct bs).1 d) e
    where
      told : (ls : List (List ℕ)) (o : Option (List ℕ)) (w : Bool) → cond (is_some o) None (Some (cond w LocalPrecedence MroConflict)) ≡ Some DuplicateBase → ⊥
      told ls (Some xs) w e = cc
      told ls None true e = cc
      told ls None false e = cc

      deep : (o : Option (List (List ℕ))) → option_and_then (refused_lines t bs) o ≡ Some DuplicateBase → ⊥
      deep None e = cc
      deep (Some ls) e = told ls (least_order (limit t) bs ls) (breaks_precedence bs ls) e

      go : (w : Bool) → w ≡ true → cond w (option_and_then (refused_lines t bs) (all_some (map (lin t) bs))) (Some DuplicateBase) ≡ Some DuplicateBase → ⊥
      go true f e = deep (all_some (map (lin t) bs)) e
      go false f e = cc

  duplicate-words : (bs : List ℕ) → (refused_bases t bs ≡ Some DuplicateBase) ↔ HasDuplicate t bs
  duplicate-words bs = (
    λ e. let r = from-order bs DuplicateBase (no-early bs DuplicateBase (λ q. cc) (λ q. cc) (λ q. cc)) e in record { fit = fit-all bs r.0; twice = twice-refused bs r.1 },
    from bs,
  )
    where
      from : (bs : List ℕ) → HasDuplicate t bs → refused_bases t bs ≡ Some DuplicateBase
      from [] w = absurd (w.twice tt)
      from (b ∷ bs) w =
          ap (λ o. option_or o (refused_order t (b ∷ bs))) (all-fit b bs w.fit)
          ∙ ap (λ d. cond d (option_and_then (refused_lines t (b ∷ bs)) (all_some (map (lin t) (b ∷ bs)))) (Some DuplicateBase)) (false_from_ne_true (is_distinct (b ∷ bs)) (λ q. w.twice ((Decides-distinct (b ∷ bs)).0 q)))

  apart : (bs : List ℕ) (ls : List (List ℕ)) → map (lin t) bs ≡ map Some ls → (l : List ℕ) → Includes ls l → Includes l (limit t) → ⊥
  apart bs ls e l h k = let r = lines-below t bs ls l (limit t) (ap all_some e ∙ all_some-some ls) h k in omega arith

  lined-of : (bs : List ℕ) (c : Cause) → refused_layout t bs ≡ None → (u : IsUnordered bs c) → AreLined t bs u.lines
  lined-of bs c l u = record { fit = fit-all bs l; distinct = (Decides-distinct bs).0 u.distinct; lines_of = u.lines_of }

  -- bases that fit, of which there is one
  none-of : (bs : List ℕ) → (bs ≡ [] → ⊥) → AllFit t bs (length bs) → refused_layout t bs ≡ None
  none-of [] n h = absurd (n refl)
  none-of (b ∷ bs) n h = all-fit b bs h

  caused : (bs : List ℕ) (ls : List (List ℕ)) (w : Bool) → breaks_precedence bs ls ≡ w → order_cause bs ls ≡ cond w LocalPrecedence MroConflict
  caused bs ls w e = ap (λ b. cond b LocalPrecedence MroConflict) e

  broken-of : (bs : List ℕ) (ls : List (List ℕ)) → order_cause bs ls ≡ LocalPrecedence → breaks_precedence bs ls ≡ true
  broken-of bs ls e = go (breaks_precedence bs ls) e
    where
      go : (w : Bool) → cond w LocalPrecedence MroConflict ≡ LocalPrecedence → w ≡ true
      go true e = refl
      go false e = cc

  kept-of : (bs : List ℕ) (ls : List (List ℕ)) → order_cause bs ls ≡ MroConflict → breaks_precedence bs ls ≡ false
  kept-of bs ls e = go (breaks_precedence bs ls) e
    where
      go : (w : Bool) → cond w LocalPrecedence MroConflict ≡ MroConflict → w ≡ false
      go true e = cc
      go false e = refl

  precedence-words : (bs : List ℕ) → (refused_bases t bs ≡ Some LocalPrecedence) ↔ BreaksOrder t bs
  precedence-words bs = (to, from)
    where
      to : refused_bases t bs ≡ Some LocalPrecedence → BreaksOrder t bs
      to e =
          let r = from-order bs LocalPrecedence (no-early bs LocalPrecedence (λ q. cc) (λ q. cc) (λ q. cc)) e in
          let u = unordered bs LocalPrecedence (λ q. cc) r.1 in
          record { lines = u.lines; lined = lined-of bs LocalPrecedence r.0 u; broken = breaks-to bs u.lines (broken-of bs u.lines u.cause) }

      from : BreaksOrder t bs → refused_bases t bs ≡ Some LocalPrecedence
      from w =
          let l = w.lined in
          let b = breaks-from bs w.lines w.broken in
          let some : bs ≡ [] → ⊥ = λ q. (let h = ap (λ ys. slice_get ys w.broken.place) (sym q) ∙ w.broken.at_place in cc) in
          from-unordered bs LocalPrecedence (none-of bs some l.fit) (record { lines = w.lines; distinct = (Decides-distinct bs).1 l.distinct; lines_of = l.lines_of; none = (broken-none bs w.lines (lines-of t bs w.lines (sym l.lines_of)) b).computed (limit t) (apart bs w.lines l.lines_of); cause = caused bs w.lines true b })

  conflict-words : (bs : List ℕ) → (refused_bases t bs ≡ Some MroConflict) ↔ HasNoLine t bs
  conflict-words bs = (to, from)
    where
      to : refused_bases t bs ≡ Some MroConflict → HasNoLine t bs
      to e =
          let r = from-order bs MroConflict (no-early bs MroConflict (λ q. cc) (λ q. cc) (λ q. cc)) e in
          let u = unordered bs MroConflict (λ q. cc) r.1 in
          let k = kept-of bs u.lines u.cause in
          record { lines = u.lines; lined = lined-of bs MroConflict r.0 u; kept = λ b. (let q = breaks-from bs u.lines b in cc (q, k)); none = λ xs o. least_order-none (limit t) bs u.lines xs u.none o }

      unmade : (ls : List (List ℕ)) → ((xs : List ℕ) → IsOrder (limit t) bs ls xs → ⊥) → (o : Option (List ℕ)) → least_order (limit t) bs ls ≡ o → o ≡ None
      unmade ls h None e = refl
      unmade ls h (Some xs) e = absurd (h xs (least_order-order (limit t) bs ls xs e))

      bare : (ls : List (List ℕ)) → map (lin t) [] ≡ map Some ls → least_order (limit t) [] ls ≡ None → ⊥
      bare [] e h = let q = least_order-no_base (limit t) in cc
      bare (l ∷ ls) e h = cc

      from : HasNoLine t bs → refused_bases t bs ≡ Some MroConflict
      from w =
          let l = w.lined in
          let none : least_order (limit t) bs w.lines ≡ None = unmade w.lines w.none (least_order (limit t) bs w.lines) refl in
          let some : bs ≡ [] → ⊥ = λ q. bare w.lines (ap (map (lin t)) (sym q) ∙ l.lines_of) (ap (λ ys. least_order (limit t) ys w.lines) (sym q) ∙ none) in
          from-unordered bs MroConflict (none-of bs some l.fit) (record { lines = w.lines; distinct = (Decides-distinct bs).1 l.distinct; lines_of = l.lines_of; none = none; cause = caused bs w.lines false (false_from_ne_true (breaks_precedence bs w.lines) (λ q. w.kept (breaks-to bs w.lines q))) })

  module _ {T : Type 0} (bs : List ℕ) where
    told-late : (r : Result T ClassFault) (c : Cause) (W : Type 0) → WithMemory r (refusal r ≡ refused_bases t bs) → (refused_bases t bs ≡ Some c) ↔ W → WithMemory r ((refusal r ≡ Some c) ↔ W)
    told-late (Ok x) c W e w = (λ h. w.0 (sym e ∙ h), λ h. e ∙ w.1 h)
    told-late (Err (Refused d)) c W e w = (λ h. w.0 (sym e ∙ h), λ h. e ∙ w.1 h)
    told-late (Err (RefusedAt d at)) c W e w = (λ h. w.0 (sym e ∙ h), λ h. e ∙ w.1 h)
    told-late (Err OutOfMemory) c W e w = tt

    told-early : (r : Result T ClassFault) (c : Cause) (W : Type 0) → IsEarly t bs (refusal r) → WithMemory r (refusal r ≡ refused_bases t bs) → (refused_order t bs ≡ Some c → ⊥) → (refused_layout t bs ≡ Some c) ↔ W → (refusal r ≡ Some c) ↔ W
    told-early r c W early e n w = (to r e, λ h. early c (w.1 h))
      where
        to : (r : Result T ClassFault) → WithMemory r (refusal r ≡ refused_bases t bs) → refusal r ≡ Some c → W
        to (Ok x) e h = cc
        to (Err (Refused d)) e h = w.0 (from-layout bs c n (sym e ∙ h))
        to (Err (RefusedAt d at)) e h = w.0 (from-layout bs c n (sym e ∙ h))
        to (Err OutOfMemory) e h = cc

    pub told : (r : Result T ClassFault) → IsEarly t bs (refusal r) → WithMemory r (refusal r ≡ refused_bases t bs) → AreTold t bs r
    told r early e = record {
      empty = told-early r EmptyBases (bs ≡ []) early e (no-late bs EmptyBases (λ q. cc) (λ q. cc) (λ q. cc)) (empty-words bs);
      base = told-early r NotBaseType (LacksBase t bs) early e (no-late bs NotBaseType (λ q. cc) (λ q. cc) (λ q. cc)) (base-words bs);
      layout = told-early r LayoutConflict (HasLayoutConflict t bs) early e (no-late bs LayoutConflict (λ q. cc) (λ q. cc) (λ q. cc)) (layout-words bs);
      duplicate = told-late r DuplicateBase (HasDuplicate t bs) e (duplicate-words bs);
      precedence = told-late r LocalPrecedence (BreaksOrder t bs) e (precedence-words bs);
      conflict = told-late r MroConflict (HasNoLine t bs) e (conflict-words bs);
    }
