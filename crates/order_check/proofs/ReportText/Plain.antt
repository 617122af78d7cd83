-- The text of a right report, whose cycles are those that are found, is what its plain classes tell.
use Rattle.order_check.proofs.Below.{ℕ, zero, suc, cond, eqb, List, [], length, map, Option, Some, None, refl, sym, ap, ◌∙◌, codes, is_none, option_and_then, slice_get, string_bytes, flat_map, filter_map, cons_option, least_order, all_some, Includes, Class, bases_of, lin, least_order-order, all_some-holds, all_some-some, lin-rule, escaped, Entry, Line, Order, Cycle, Without, IsCycle, class_of, classes, order_in, name_in, AreKeyed, lists_of, first_without, OnBoth, IsLine, IsFoundLine, IsReport, AreFound, plain_class, shown, line_of, cycle_shown, line_text, lines_text, report_text, model_class, order_among, name_among, shown_among, cycle_pairs, line_from, line_by, plain_line, plain_report}
use Rattle.std.proofs.Common.{◌≡◌, ◌∷◌, ◌++◌}
use Rattle.order_check.proofs.ClassFact.{ordered_or_cyclic}
use Rattle.order_check.proofs.Knowing.{never-below}
use Rattle.order_check.proofs.Places.{bases-of_entry}
use Rattle.order_check.proofs.Telling.{first_without-none, based, order-rule}

-- names and orders are those of the plain classes

same-classes : (h : List Entry) → map model_class (map plain_class h) ≡ classes h
same-classes [] = refl
same-classes (e ∷ h) = ap (λ t. class_of e ∷ t) (same-classes h)

same-name : (h : List Entry) (c : ℕ) → name_among (map plain_class h) c ≡ name_in h c
same-name [] c = refl
same-name (e ∷ h) c = ap (cond (eqb e.key c) (string_bytes e.name)) (same-name h c)

same-shown : (h : List Entry) → shown_among (map plain_class h) ≡ shown h
same-shown h = λ i c. escaped (same-name h c i)

same-orders : (h : List Entry) → order_among (map plain_class h) ≡ order_in h
same-orders h = ap (λ (t : List (Class ℕ)). lin t) (same-classes h)

-- bases that all have an order

all-kept : (f : ℕ → Option (List ℕ)) (bs : List ℕ) (lines : List (List ℕ)) → map f bs ≡ map Some lines → filter_map f bs ≡ lines
all-kept f [] [] e = refl
all-kept f [] (l ∷ lines) e = cc
all-kept f (b ∷ bs) [] e = cc
all-kept f (b ∷ bs) (l ∷ lines) e =
    let first : f b ≡ Some l = cc in
    let others : map f bs ≡ map Some lines = cc in
    ap (λ o. cons_option o (filter_map f bs)) first ∙ ap (λ ls. l ∷ ls) (all-kept f bs lines others)

none-without : (f : ℕ → Option (List ℕ)) (bs : List ℕ) (lines : List (List ℕ)) → map f bs ≡ map Some lines → first_without f bs ≡ None
none-without f [] lines e = refl
none-without f (b ∷ bs) [] e = cc
none-without f (b ∷ bs) (l ∷ lines) e =
    let first : f b ≡ Some l = cc in
    let others : map f bs ≡ map Some lines = cc in
    ap (λ o. cond (is_none o) (Some b) (first_without f bs)) first ∙ none-without f bs lines others

module _ (h : List Entry) (e : Entry) (class : bases_of (classes h) e.key ≡ Some e.bases.items) where
  -- a class whose base has no order has none
  base-none : (b : ℕ) → first_without (order_in h) e.bases.items ≡ Some b → order_in h e.key ≡ None
  base-none b w =
      lin-rule (classes h) e.key
      ∙ ap (option_and_then (λ bs. option_and_then (least_order e.key bs) (all_some (map (order_in h) bs)))) class
      ∙ ap (option_and_then (least_order e.key e.bases.items)) (first_without-none (order_in h) e.bases.items b w)

  -- a class whose lists have a cycle has none
  cycle-none : (lines : List (List ℕ)) (cycle : List ℕ) → map (order_in h) e.bases.items ≡ map Some lines → IsCycle (lists_of e.bases.items lines) cycle → order_in h e.key ≡ None
  cycle-none lines cycle are is = go (order_in h e.key) refl
    where
      all : all_some (map (order_in h) e.bases.items) ≡ Some lines
      all = ap all_some are ∙ all_some-some lines

      apart : (l : List ℕ) → Includes lines l → Includes l e.key → ⊥
      apart l i j =
          let r = all_some-holds (order_in h) e.bases.items lines l all i in
          never-below (bases_of (classes h)) (length (classes h)) r.0 e.key l e.bases.items r.2 j class r.1

      go : (o : Option (List ℕ)) → order_in h e.key ≡ o → o ≡ None
      go None p = refl
      go (Some xs) p =
          let order = least_order-order e.key e.bases.items lines xs (sym (order-rule h e class lines all) ∙ p) in
          absurd ((ordered_or_cyclic (lists_of e.bases.items lines) e.key e.bases.items lines refl apart (based h e class lines all)).0 (xs, order) cycle is)

  -- what a line tells is what the class's order tells, or its first base without one, or its cycle
  line-same : (l : Line) → IsLine h e l → IsFoundLine h e l → line_text h e l ≡ line_by (shown h) (order_in h) (plain_class e)
  line-same (Order line) is found =
      sym (ap (λ o. line_from (shown h) (order_in h) (plain_class e) o (first_without (order_in h) e.bases.items)) is)
  line-same (Without b) is found =
      sym (ap (λ o. line_from (shown h) (order_in h) (plain_class e) o (first_without (order_in h) e.bases.items)) (base-none b is)
      ∙ ap (line_from (shown h) (order_in h) (plain_class e) None) is)
  line-same (Cycle pairs) is found =
      let bs = e.bases.items in
      sym (ap (λ o. line_from (shown h) (order_in h) (plain_class e) o (first_without (order_in h) bs)) (cycle-none is.lines is.tells.cycle is.of_bases is.tells.is_cycle)
      ∙ ap (line_from (shown h) (order_in h) (plain_class e) None) (none-without (order_in h) bs is.lines is.of_bases)
      ∙ ap (λ ps. line_of (codes "cycle") (string_bytes e.name) (cycle_shown (shown h) ps)) (ap (λ ls. cycle_pairs bs (lists_of bs ls)) (all-kept (order_in h) bs is.lines is.of_bases) ∙ sym (found is.lines is.of_bases)))

  line-plain : (l : Line) → IsLine h e l → IsFoundLine h e l → line_text h e l ≡ plain_line (map plain_class h) (plain_class e)
  unfolding plain_line
  line-plain l is found =
      line-same l is found
      ∙ sym (ap (λ name. line_by name (order_among (map plain_class h)) (plain_class e)) (same-shown h) ∙ ap (λ order. line_by (shown h) order (plain_class e)) (same-orders h))

-- each class with its line
lines-plain : (h es : List Entry) (ls : List Line) → ((k : ℕ) → OnBoth (λ e l. line_text h e l ≡ plain_line (map plain_class h) (plain_class e)) (slice_get es k) (slice_get ls k)) → lines_text h es ls ≡ flat_map (plain_line (map plain_class h)) (map plain_class es)
unfolding lines_text
lines-plain h [] ls each = refl
lines-plain h (e ∷ es) [] each = absurd (each zero)
lines-plain h (e ∷ es) (l ∷ ls) each =
    ap (λ t. t ++ lines_text h es ls) (each zero)
    ∙ ap (λ t. plain_line (map plain_class h) (plain_class e) ++ t) (lines-plain h es ls (λ k. each (suc k)))

each-plain : (h : List Entry) (ls : List Line) → AreKeyed h → IsReport h ls → AreFound h ls → (k : ℕ) → OnBoth (λ e l. line_text h e l ≡ plain_line (map plain_class h) (plain_class e)) (slice_get h (suc k)) (slice_get ls k)
each-plain h ls keyed right found k = go (slice_get h (suc k)) refl (slice_get ls k) (right k) (found k)
  where
    go : (o : Option Entry) → slice_get h (suc k) ≡ o → (p : Option Line) → OnBoth (IsLine h) o p → OnBoth (IsFoundLine h) o p → OnBoth (λ e l. line_text h e l ≡ plain_line (map plain_class h) (plain_class e)) o p
    go None at None r f = tt
    go None at (Some l) r f = r
    go (Some e) at None r f = r
    go (Some e) at (Some l) r f = line-plain h e (bases-of_entry h (suc k) e keyed at) l r f

pub report-plain : (h : List Entry) (ls : List Line) → AreKeyed h → IsReport h ls → AreFound h ls → report_text h ls ≡ plain_report (map plain_class h)
unfolding lines_text plain_report
report-plain [] ls keyed right found = refl
report-plain (e ∷ h) ls keyed right found = lines-plain (e ∷ h) h ls (each-plain (e ∷ h) ls keyed right found)
