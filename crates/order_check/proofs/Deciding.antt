-- What the tests of a line decide.
use Rattle.order_check.proofs.Below.{ℕ, Bool, true, cond, eqb, List, [], map, length, Option, Some, None, inl, inr, refl, sym, ap, subst, ◌∙◌, arith, is_none, option_map, option_and_then, eqb-true, eq-eqb, leb-true, le-leb, and_parts, false≢true, is_distinct, least_order, all_some, Includes, bases_of, least_order-order, all_some-holds, all_some-some, all_some-map, lin-rule, Decides-distinct, IsApart, least_order-merged, Entry, Pair, is_before_in, are_chained, first_or, IsCycle, BeginsWithLeast, classes, order_in, lists_of, list_with, pair_in, pairs_to, pairs_of, first_without, TellsCycle, IsCycleLine, or_empty, firsts, is_least, is_same_list, is_told, are_told, tells_cycle, merged_order}
use Rattle.std.proofs.Common.{◌≡◌, ◌≤◌, ◌&&◌, leb, ◌∷◌}
use Rattle.std.specs.Prelude.{◌↔◌}
use Rattle.order_check.proofs.ClassFact.{ordered_or_cyclic}
use Rattle.order_check.proofs.Decided.{Decides-chained}
use Rattle.order_check.proofs.Knowing.{never-below}
use Rattle.order_check.proofs.Telling.{based, order-rule, first_without-none}

both_true : (a b : Bool) → a ≡ true → b ≡ true → (a && b) ≡ true
both_true a b p q = ap (λ w. w && b) p ∙ q

firsts-pairs : (bases : List ℕ) (ls : List (List ℕ)) (last : ℕ) (xs : List ℕ) → firsts (pairs_to bases ls last xs) ≡ xs
firsts-pairs bases ls last [] = refl
firsts-pairs bases ls last (x ∷ xs) = ap (λ w. x ∷ w) (firsts-pairs bases ls last xs)

list-same : (a b : Option ℕ) → is_same_list a b ≡ true → a ≡ b
list-same None None e = refl
list-same None (Some y) e = absurd (false≢true e)
list-same (Some x) None e = absurd (false≢true e)
list-same (Some x) (Some y) e = ap Some (eqb-true x y e)

same-itself : (a : Option ℕ) → is_same_list a a ≡ true
same-itself None = refl
same-itself (Some x) = eq-eqb x x refl

pair-told : (bases : List ℕ) (ls : List (List ℕ)) (p : Pair) (y : ℕ) → is_told bases ls p y ≡ true → (p ≡ pair_in bases ls p.first y) × (is_before_in p.first y ls ≡ true)
pair-told bases ls p y e =
    let one = and_parts (eqb p.second y) (is_before_in p.first y ls && is_same_list p.list (list_with p.first y bases ls)) e in
    let two = and_parts (is_before_in p.first y ls) (is_same_list p.list (list_with p.first y bases ls)) one.1 in
    let made : ℕ → Option ℕ → Pair = λ s l. record { first = p.first; second = s; list = l } in
    (ap (λ s. made s p.list) (eqb-true p.second y one.0) ∙ ap (made y) (list-same p.list (list_with p.first y bases ls) two.1), two.0)

told-parts : (bases : List ℕ) (ls : List (List ℕ)) (last : ℕ) (ps : List Pair) → are_told bases ls last ps ≡ true → (ps ≡ pairs_to bases ls last (firsts ps)) × (are_chained ls (firsts ps) last ≡ true)
told-parts bases ls last [] e = (refl, refl)
told-parts bases ls last (p ∷ ps) e =
    let parts = and_parts (is_told bases ls p (first_or last (firsts ps))) (are_told bases ls last ps) e in
    let here = pair-told bases ls p (first_or last (firsts ps)) parts.0 in
    let more = told-parts bases ls last ps parts.1 in (
      ap (λ w. w ∷ ps) here.0 ∙ ap (λ w. pair_in bases ls p.first (first_or last (firsts ps)) ∷ w) more.0,
      both_true (is_before_in p.first (first_or last (firsts ps)) ls) (are_chained ls (firsts ps) last) here.1 more.1,
    )

told-from : (bases : List ℕ) (ls : List (List ℕ)) (last : ℕ) (xs : List ℕ) → are_chained ls xs last ≡ true → are_told bases ls last (pairs_to bases ls last xs) ≡ true
told-from bases ls last [] e = refl
told-from bases ls last (x ∷ xs) e =
    let parts = and_parts (is_before_in x (first_or last xs) ls) (are_chained ls xs last) e in
    let y = first_or last xs in
    let at_y : is_told bases ls (pair_in bases ls x y) y ≡ true =
    both_true (eqb y y) (is_before_in x y ls && is_same_list (list_with x y bases ls) (list_with x y bases ls)) (eq-eqb y y refl) (both_true (is_before_in x y ls) (is_same_list (list_with x y bases ls) (list_with x y bases ls)) parts.0 (same-itself (list_with x y bases ls))) in
    both_true (is_told bases ls (pair_in bases ls x y) (first_or last (firsts (pairs_to bases ls last xs)))) (are_told bases ls last (pairs_to bases ls last xs)) (ap (λ w. is_told bases ls (pair_in bases ls x y) (first_or last w)) (firsts-pairs bases ls last xs) ∙ at_y) (told-from bases ls last xs parts.1)

least-below : (x : ℕ) (ys : List ℕ) → is_least x ys ≡ true → (y : ℕ) → Includes ys y → x ≤ y
least-below x [] e y h = absurd h
least-below x (z ∷ ys) e y (inl i) = let l = leb-true x z (and_parts (leb x z) (is_least x ys) e).0 in omega (arith, l, i)
least-below x (z ∷ ys) e y (inr h) = least-below x ys (and_parts (leb x z) (is_least x ys) e).1 y h

below-least : (x : ℕ) (ys : List ℕ) → ((y : ℕ) → Includes ys y → x ≤ y) → is_least x ys ≡ true
below-least x [] h = refl
below-least x (z ∷ ys) h = both_true (leb x z) (is_least x ys) (le-leb x z (h z (inl refl))) (below-least x ys (λ y k. h y (inr k)))

tells-from : (bases : List ℕ) (ls : List (List ℕ)) (ps : List Pair) → tells_cycle bases ls ps ≡ true → TellsCycle bases ls ps
tells-from bases ls [] e = absurd (false≢true e)
tells-from bases ls (p ∷ ps) e =
    let one = and_parts (is_distinct (firsts (p ∷ ps))) (is_least p.first (firsts ps) && are_told bases ls p.first (p ∷ ps)) e in
    let two = and_parts (is_least p.first (firsts ps)) (are_told bases ls p.first (p ∷ ps)) one.1 in
    let told = told-parts bases ls p.first (p ∷ ps) two.1 in
    record {
      cycle = firsts (p ∷ ps);
      is_cycle = ((Decides-distinct (firsts (p ∷ ps))).0 one.0, (Decides-chained ls p.first (firsts ps) p.first).0 told.1);
      least = least-below p.first (firsts ps) two.0;
      told = told.0;
    }

tells-of : (bases : List ℕ) (ls : List (List ℕ)) (cycle : List ℕ) → IsCycle ls cycle → BeginsWithLeast cycle → tells_cycle bases ls (pairs_of bases ls cycle) ≡ true
tells-of bases ls [] c l = absurd c
tells-of bases ls (x ∷ xs) c l =
    let same = firsts-pairs bases ls x xs in
    let rest = pairs_to bases ls x xs in
    let told = told-from bases ls x (x ∷ xs) ((Decides-chained ls x xs x).1 c.1) in
    both_true (is_distinct (x ∷ firsts rest)) (is_least x (firsts rest) && are_told bases ls x (pairs_of bases ls (x ∷ xs))) (ap (λ w. is_distinct (x ∷ w)) same ∙ (Decides-distinct (x ∷ xs)).1 c.0) (both_true (is_least x (firsts rest)) (are_told bases ls x (pairs_of bases ls (x ∷ xs))) (ap (is_least x) same ∙ below-least x xs l) told)

pub tells-decided : (bases : List ℕ) (ls : List (List ℕ)) (ps : List Pair) → (tells_cycle bases ls ps ≡ true) ↔ TellsCycle bases ls ps
tells-decided bases ls ps = (tells-from bases ls ps, λ t. ap (tells_cycle bases ls) t.told ∙ tells-of bases ls t.cycle t.is_cycle t.least)

-- a function that agrees on the bases

pub without-agrees : (f g : ℕ → Option (List ℕ)) (bs : List ℕ) → ((b : ℕ) → Includes bs b → f b ≡ g b) → first_without f bs ≡ first_without g bs
without-agrees f g [] h = refl
without-agrees f g (b ∷ bs) h =
    ap (λ o. cond (is_none o) (Some b) (first_without f bs)) (h b (inl refl)) ∙ ap (cond (is_none (g b)) (Some b)) (without-agrees f g bs (λ c k. h c (inr k)))

lines-agree : (f g : ℕ → Option (List ℕ)) (bs : List ℕ) → ((b : ℕ) → Includes bs b → f b ≡ g b) → first_without f bs ≡ None → all_some (map g bs) ≡ Some (map (λ b. or_empty (f b)) bs)
lines-agree f g [] h e = refl
lines-agree f g (b ∷ bs) h e = go (f b) (h b (inl refl)) e (lines-agree f g bs (λ c k. h c (inr k)))
  where
    go : (o : Option (List ℕ)) → o ≡ g b → cond (is_none o) (Some b) (first_without f bs) ≡ None → (first_without f bs ≡ None → all_some (map g bs) ≡ Some (map (λ b. or_empty (f b)) bs)) → all_some (g b ∷ map g bs) ≡ Some (or_empty o ∷ map (λ b. or_empty (f b)) bs)
    go None i e more = cc
    go (Some l) i e more = ap (λ w. all_some (w ∷ map g bs)) (sym i) ∙ ap (option_map (λ xs. l ∷ xs)) (more e)

-- a class is in none of its bases' linearisations
pub apart-from : (h : List Entry) (e : Entry) → bases_of (classes h) e.key ≡ Some e.bases.items → (lines : List (List ℕ)) → all_some (map (order_in h) e.bases.items) ≡ Some lines → IsApart e.key lines
apart-from h e class lines all l i j =
    let r = all_some-holds (order_in h) e.bases.items lines l all i in
    never-below (bases_of (classes h)) (length (classes h)) r.0 e.key l e.bases.items r.2 j class r.1

-- what a line tells, where it is right

pub cycle-none : (h : List Entry) (e : Entry) (ps : List Pair) → bases_of (classes h) e.key ≡ Some e.bases.items → IsCycleLine h e ps → order_in h e.key ≡ None
cycle-none h e ps class c = go (order_in h e.key) refl
  where
    all : all_some (map (order_in h) e.bases.items) ≡ Some c.lines
    all = ap all_some c.of_bases ∙ all_some-some c.lines

    go : (o : Option (List ℕ)) → order_in h e.key ≡ o → o ≡ None
    go None q = refl
    go (Some xs) q =
        let o = least_order-order e.key e.bases.items c.lines xs (sym (order-rule h e class c.lines all) ∙ q) in
        absurd ((ordered_or_cyclic (lists_of e.bases.items c.lines) e.key e.bases.items c.lines refl (apart-from h e class c.lines all) (based h e class c.lines all)).0 (xs, o) c.tells.cycle c.tells.is_cycle)

-- a class, and what is told of its bases
module _ (h : List Entry) (e : Entry) (f : ℕ → Option (List ℕ)) (told : (b : ℕ) → Includes e.bases.items b → f b ≡ order_in h b) where
  -- where a base has no order
  pub none-told : (b : ℕ) → first_without f e.bases.items ≡ Some b → all_some (map (order_in h) e.bases.items) ≡ None
  none-told b p = first_without-none (order_in h) e.bases.items b (sym (without-agrees f (order_in h) e.bases.items told) ∙ p)

  pub no-cycle_line : (b : ℕ) (ps : List Pair) → first_without f e.bases.items ≡ Some b → IsCycleLine h e ps → ⊥
  no-cycle_line b ps p c = let none = none-told b p in let some = ap all_some c.of_bases ∙ all_some-some c.lines in cc

  pub cycle-decided : first_without f e.bases.items ≡ None → (ps : List Pair) (r : Bool) → r ≡ tells_cycle e.bases.items (lists_of e.bases.items (map (λ b. or_empty (f b)) e.bases.items)) ps → (r ≡ true) ↔ IsCycleLine h e ps
  cycle-decided p ps r i =
      let lines = map (λ b. or_empty (f b)) e.bases.items in
      let all = lines-agree f (order_in h) e.bases.items told p in
      let d = tells-decided e.bases.items (lists_of e.bases.items lines) ps in (
        λ t. record { lines = lines; of_bases = all_some-map (map (order_in h) e.bases.items) lines all; tells = d.0 (sym i ∙ t) },
        λ c.
            let other = ap all_some c.of_bases ∙ all_some-some c.lines in
            let same : c.lines ≡ lines = cc (all, other) in
            let P : List (List ℕ) → Type 0 = λ w. TellsCycle e.bases.items (lists_of e.bases.items w) ps in
            i ∙ d.1 (subst P same c.tells),
      )

  module _ (class : bases_of (classes h) e.key ≡ Some e.bases.items) where
    pub no-order : (b : ℕ) → first_without f e.bases.items ≡ Some b → order_in h e.key ≡ None
    no-order b p =
        lin-rule (classes h) e.key
        ∙ ap (option_and_then (λ bs. option_and_then (least_order e.key bs) (all_some (map (order_in h) bs)))) class
        ∙ ap (option_and_then (least_order e.key e.bases.items)) (none-told b p)

    pub order-decided : first_without f e.bases.items ≡ None → order_in h e.key ≡ merged_order e.key (lists_of e.bases.items (map (λ b. or_empty (f b)) e.bases.items))
    order-decided p =
        let lines = map (λ b. or_empty (f b)) e.bases.items in
        let all = lines-agree f (order_in h) e.bases.items told p in
        order-rule h e class lines all ∙ least_order-merged e.key e.bases.items lines (apart-from h e class lines all) (based h e class lines all)
