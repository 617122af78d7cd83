-- What is told of a class, where all orders are known.
use Rattle.order_check.proofs.Below.{ℕ, Bool, true, false, cond, eqb, List, [], length, map, Option, Some, None, inl, inr, refl, sym, ap, ◌∙◌, is_none, option_map, option_and_then, eqb-true, eqb-false, length-map, least_order, all_some, Includes, bases_of, least_order-none, linear-known, all_some-has, all_some-map, lin-rule, lin-held, IsApart, Entry, Pair, HasNoCycle, IsAnswer, cycle_of, classes, keys_of, order_in, all_orders, known_in, AreKnown, AreIn, lists_of, first_without, found_pairs, IsCycleLine}
use Rattle.std.proofs.Common.{◌≡◌, ◌∷◌, ◌⊎◌}
use Rattle.order_check.proofs.ClassFact.{ordered_or_cyclic}
use Rattle.order_check.proofs.Fact.{cycle_of-answer}
use Rattle.order_check.proofs.Places.{bases-held}

-- of what is no key nothing is known

known-here : (h g : List Entry) (c : ℕ) → (known_in h (map (λ (e : Entry). order_in g e.key) h) c ≡ order_in g c) ⊎ ((Includes (keys_of h) c → ⊥) × (known_in h (map (λ (e : Entry). order_in g e.key) h) c ≡ None))
known-here [] g c = inr (λ h. h, refl)
known-here (e ∷ h) g c = go (eqb e.key c) refl (known-here h g c)
  where
    go : (b : Bool) → eqb e.key c ≡ b → (known_in h (map (λ (e : Entry). order_in g e.key) h) c ≡ order_in g c) ⊎ ((Includes (keys_of h) c → ⊥) × (known_in h (map (λ (e : Entry). order_in g e.key) h) c ≡ None)) → (cond b (order_in g e.key) (known_in h (map (λ (e : Entry). order_in g e.key) h) c) ≡ order_in g c) ⊎ ((Includes (keys_of (e ∷ h)) c → ⊥) × (cond b (order_in g e.key) (known_in h (map (λ (e : Entry). order_in g e.key) h) c) ≡ None))
    go true t more = inl (ap (order_in g) (eqb-true e.key c t))
    go false t (inl p) = inl p
    go false t (inr p) = inr (λ k. elim k [ inl i ↦ eqb-false e.key c t i | inr j ↦ p.0 j ], p.1)

pub none-there : (h : List Entry) (c : ℕ) → (Includes (keys_of h) c → ⊥) → order_in h c ≡ None
none-there h c n = go (order_in h c) refl
  where
    go : (o : Option (List ℕ)) → order_in h c ≡ o → o ≡ None
    go None e = refl
    go (Some xs) e = let r = linear-known (bases_of (classes h)) (length (classes h)) c xs e in absurd (n (bases-held h c r.0 r.1))

pub all-in : (h : List Entry) (os : List (Option (List ℕ))) → os ≡ all_orders h → (c : ℕ) → known_in h os c ≡ order_in h c
all-in h os e c = ap (λ w. known_in h w c) e ∙ elim (known-here h h c) [ inl p ↦ p | inr p ↦ p.1 ∙ sym (none-there h c p.0) ]

pub first_without-same : (f g : ℕ → Option (List ℕ)) → ((c : ℕ) → f c ≡ g c) → (bs : List ℕ) → first_without f bs ≡ first_without g bs
first_without-same f g h [] = refl
first_without-same f g h (b ∷ bs) = ap (λ o. cond (is_none o) (Some b) (first_without f bs)) (h b) ∙ ap (cond (is_none (g b)) (Some b)) (first_without-same f g h bs)

pub first_without-none : (f : ℕ → Option (List ℕ)) (bs : List ℕ) (b : ℕ) → first_without f bs ≡ Some b → all_some (map f bs) ≡ None
first_without-none f [] b e = cc
first_without-none f (x ∷ bs) b e = go (f x) e (first_without-none f bs b)
  where
    go : (o : Option (List ℕ)) → cond (is_none o) (Some x) (first_without f bs) ≡ Some b → (first_without f bs ≡ Some b → all_some (map f bs) ≡ None) → all_some (o ∷ map f bs) ≡ None
    go None e more = refl
    go (Some l) e more = ap (option_map (λ xs. l ∷ xs)) (more e)

pub all_some-length : {A : Type 0} (os : List (Option A)) (xs : List A) → all_some os ≡ Some xs → length xs ≡ length os
all_some-length os xs e = sym (ap length (all_some-map os xs e) ∙ length-map xs Some)

-- a class that has no order, while its bases have these
module _ (h : List Entry) (e : Entry) (class : bases_of (classes h) e.key ≡ Some e.bases.items) (lines : List (List ℕ)) (all : all_some (map (order_in h) e.bases.items) ≡ Some lines) where
  pub based : AreIn e.bases.items lines
  based b k = let r = all_some-has (order_in h) e.bases.items lines b all k in (r.0, r.1, lin-held (classes h) b r.0 r.2)

  pub order-rule : order_in h e.key ≡ least_order e.key e.bases.items lines
  order-rule =
      lin-rule (classes h) e.key
      ∙ ap (option_and_then (λ bs. option_and_then (least_order e.key bs) (all_some (map (order_in h) bs)))) class
      ∙ ap (option_and_then (least_order e.key e.bases.items)) all

  pub cyclic : IsApart e.key lines → order_in h e.key ≡ None → HasNoCycle (lists_of e.bases.items lines) → ⊥
  cyclic apart none n =
      let o = (ordered_or_cyclic (lists_of e.bases.items lines) e.key e.bases.items lines refl apart based).1 n in
      least_order-none e.key e.bases.items lines o.0 (sym order-rule ∙ none) o.1

  pub cycle-line : IsApart e.key lines → order_in h e.key ≡ None → (pairs : List Pair) → pairs ≡ found_pairs e.bases.items (lists_of e.bases.items lines) (cycle_of (lists_of e.bases.items lines)) → IsCycleLine h e pairs
  cycle-line apart none pairs is = go (cycle_of (lists_of e.bases.items lines)) is (cycle_of-answer (lists_of e.bases.items lines))
    where
      go : (o : Option (List ℕ)) → pairs ≡ found_pairs e.bases.items (lists_of e.bases.items lines) o → IsAnswer (lists_of e.bases.items lines) o → IsCycleLine h e pairs
      go None is a = absurd (cyclic apart none a)
      go (Some cycle) is a = record {
        lines = lines;
        of_bases = all_some-map (map (order_in h) e.bases.items) lines all;
        tells = record { cycle = cycle; is_cycle = a.0; least = a.1; told = is };
      }

pub all-known : (h : List Entry) (os : List (Option (List ℕ))) → os ≡ all_orders h → AreKnown h os
unfolding AreKnown
all-known h os e c xs k = sym (all-in h os e c) ∙ k
