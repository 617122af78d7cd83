-- What is known of the linearisations, and what follows when nothing more is found.
use Rattle.order_check.proofs.Below.{ℕ, zero, suc, Bool, true, false, cond, eqb, List, [], length, get_or, set, map, Option, Some, None, refl, sym, ap, subst, ◌∙◌, arith, option_map, option_and_then, eqb-true, least_order, all_some, linear, Includes, Distinct, BeginsWith, bases_of, AreLinesOf, IsApart, Entry, classes, keys_of, order_in, AreKeyed, all_orders, known_in, over, step, AreKnown, IsClosedAt, IsClosedTo, linear-made, linear-zero, linear-grows, all_some-at, all_some-holds, all_some-has, linear-member, lin-begins, lin-distinct, lin-from, lin-rule}
use Rattle.std.proofs.Common.{◌≡◌, ◌<◌, ◌∷◌}
use Rattle.order_check.proofs.Places.{held-at, bases-held, known-at, known-set}

-- no base of a class has the class along its linearisation
pub never-below : (bases : ℕ → Option (List ℕ)) (n b c : ℕ) (l bs : List ℕ) → linear bases n b ≡ Some l → Includes l c → bases c ≡ Some bs → Includes bs b → ⊥
never-below bases zero b c l bs e h k i = linear-zero bases b l e
never-below bases (suc n) b c l bs e h k i =
    let r = linear-member bases (suc n) b l c e h in
    let made = linear-made bases n c r.0 r.1 in
    let same : bs ≡ made.direct = let p = made.of_class in cc in
    let P : List ℕ → Type 0 = λ w. Includes w b in
    let q = all_some-has (linear bases n) made.direct made.lines b made.of_bases (subst P same i) in
    let up = linear-grows bases bases (λ d bs p. p) n (suc n) (omega arith) b q.0 q.2 in
    let line : q.0 ≡ l = cc (up, e) in
    let Q : List ℕ → Type 0 = λ w. Includes w c in
    never-below bases n b c q.0 bs q.2 (subst Q (sym line) h) k i

pub begin-lines : (f : ℕ → Option (List ℕ)) → ((b : ℕ) (l : List ℕ) → f b ≡ Some l → BeginsWith b l × Distinct l) → (bs : List ℕ) (ls : List (List ℕ)) → all_some (map f bs) ≡ Some ls → AreLinesOf bs ls
begin-lines f h [] [] e = tt
begin-lines f h [] (l ∷ ls) e = cc
begin-lines f h (b ∷ bs) ls e = go (f b) refl (all_some (map f bs)) refl (begin-lines f h bs) ls e
  where
    go : (o : Option (List ℕ)) → f b ≡ o → (r : Option (List (List ℕ))) → all_some (map f bs) ≡ r → ((ms : List (List ℕ)) → all_some (map f bs) ≡ Some ms → AreLinesOf bs ms) → (ls : List (List ℕ)) → all_some (o ∷ map f bs) ≡ Some ls → AreLinesOf (b ∷ bs) ls
    go None p r q more ls e = cc
    go (Some l) p None q more ls e = let none : option_map (λ xs. l ∷ xs) (all_some (map f bs)) ≡ None = ap (option_map (λ xs. l ∷ xs)) q in cc
    go (Some l) p (Some ms) q more ls e =
        let all : option_map (λ xs. l ∷ xs) (all_some (map f bs)) ≡ Some (l ∷ ms) = ap (option_map (λ xs. l ∷ xs)) q in
        let s : l ∷ ms ≡ ls = cc in
        let P : List (List ℕ) → Type 0 = λ w. AreLinesOf (b ∷ bs) w in
        let at = h b l p in
        subst P s (at.0, at.1, more ms q)

module _ (h : List Entry) (os : List (Option (List ℕ))) (known : AreKnown h os) where
  order-of : (c : ℕ) (xs : List ℕ) → known_in h os c ≡ Some xs → order_in h c ≡ Some xs
  unfolding AreKnown
  order-of c xs e = known c xs e

  pub known-lines : (bs : List ℕ) (ls : List (List ℕ)) → all_some (map (known_in h os) bs) ≡ Some ls → AreLinesOf bs ls
  known-lines bs ls e = begin-lines (known_in h os) (λ b l p. (lin-begins (classes h) b l (order-of b l p), lin-distinct (classes h) b l (order-of b l p))) bs ls e

  pub known-apart : (c : ℕ) (bs : List ℕ) (ls : List (List ℕ)) → bases_of (classes h) c ≡ Some bs → all_some (map (known_in h os) bs) ≡ Some ls → IsApart c ls
  known-apart c bs ls k e l i j =
      let r = all_some-holds (known_in h os) bs ls l e i in
      never-below (bases_of (classes h)) (length (classes h)) r.0 c l bs (order-of r.0 l r.2) j k r.1

  -- what follows from what is known is so
  pub order-over : (c : ℕ) (bs xs : List ℕ) → bases_of (classes h) c ≡ Some bs → over (known_in h os) c bs ≡ Some xs → order_in h c ≡ Some xs
  order-over c bs xs k e = go (all_some (map (known_in h os) bs)) refl e
    where
      go : (o : Option (List (List ℕ))) → all_some (map (known_in h os) bs) ≡ o → option_and_then (least_order c bs) o ≡ Some xs → order_in h c ≡ Some xs
      go None p e = cc
      go (Some ls) p e =
          let all = all_some-at (known_in h os) (order_in h) bs ls (λ b l i j q. order-of b l q) p in
          lin-rule (classes h) c
          ∙ ap (option_and_then (λ bs. option_and_then (least_order c bs) (all_some (map (order_in h) bs)))) k
          ∙ ap (option_and_then (least_order c bs)) all
          ∙ e

  pub known-right : (i : ℕ) (xs : List ℕ) → AreKeyed h → length os ≡ length h → i < length h → order_in h (get_or (keys_of h) i 0) ≡ Some xs → AreKnown h (set os i (Some xs))
  unfolding AreKnown
  known-right i xs d n l e c ys f = go (eqb (get_or (keys_of h) i 0) c) refl (sym (known-set h os i (Some xs) c d n l) ∙ f)
    where
      go : (b : Bool) → eqb (get_or (keys_of h) i 0) c ≡ b → cond b (Some xs) (known_in h os c) ≡ Some ys → order_in h c ≡ Some ys
      go true t g = ap (order_in h) (sym (eqb-true (get_or (keys_of h) i 0) c t)) ∙ e ∙ g
      go false t g = known c ys g

  pub known-more : (i : ℕ) (xs bs : List ℕ) → AreKeyed h → length os ≡ length h → i < length h → bases_of (classes h) (get_or (keys_of h) i 0) ≡ Some bs → over (known_in h os) (get_or (keys_of h) i 0) bs ≡ Some xs → AreKnown h (set os i (Some xs))
  known-more i xs bs d n l k e = known-right i xs d n l (order-over (get_or (keys_of h) i 0) bs xs k e)

  module _ (keyed : AreKeyed h) (count : length os ≡ length h) (closed : IsClosedTo h os (length h)) where
    closed-at : (c : ℕ) → IsClosedAt h os c
    unfolding IsClosedTo
    closed-at c e = go (bases_of (classes h) c) refl
      where
        go : (o : Option (List ℕ)) → bases_of (classes h) c ≡ o → option_and_then (over (known_in h os) c) (bases_of (classes h) c) ≡ None
        go None k = ap (option_and_then (over (known_in h os) c)) k
        go (Some bs) k =
            let r = held-at h c (bases-held h c bs k) in
            let P : ℕ → Type 0 = λ x. IsClosedAt h os x in
            let here : IsClosedAt h os c = subst P r.2 (closed r.0 r.1) in
            here e

    none-deep : (n c : ℕ) (xs : List ℕ) → known_in h os c ≡ None → linear (bases_of (classes h)) n c ≡ Some xs → ⊥
    none-deep zero c xs e f = linear-zero (bases_of (classes h)) c xs f
    none-deep (suc n) c xs e f =
        let made = linear-made (bases_of (classes h)) n c xs f in
        let all = all_some-at (linear (bases_of (classes h)) n) (known_in h os) made.direct made.lines (λ b l i j q. back b l q (none-deep n) (known_in h os b) refl) made.of_bases in
        let some : step h (known_in h os) c ≡ Some xs =
        ap (option_and_then (over (known_in h os) c)) made.of_class ∙ ap (option_and_then (least_order c made.direct)) all ∙ made.is in
        let none = closed-at c e in
        cc
      where
        back : (b : ℕ) (l : List ℕ) → linear (bases_of (classes h)) n b ≡ Some l → ((d : ℕ) (ys : List ℕ) → known_in h os d ≡ None → linear (bases_of (classes h)) n d ≡ Some ys → ⊥) → (o : Option (List ℕ)) → known_in h os b ≡ o → known_in h os b ≡ Some l
        back b l q more None p = absurd (more b l p q)
        back b l q more (Some m) p = let a = order-of b m p in let z = lin-from (classes h) n b l q in cc

    -- where nothing more is found, all is known
    pub all-known : (c : ℕ) → known_in h os c ≡ order_in h c
    all-known c = go (known_in h os c) refl (order_in h c) refl
      where
        go : (a : Option (List ℕ)) → known_in h os c ≡ a → (b : Option (List ℕ)) → order_in h c ≡ b → known_in h os c ≡ order_in h c
        go (Some xs) p b q = p ∙ sym (order-of c xs p)
        go None p None q = p ∙ sym q
        go None p (Some xs) q = absurd (none-deep (length (classes h)) c xs p q)

same-at : (h g : List Entry) (os : List (Option (List ℕ))) → length os ≡ length h → ((i : ℕ) → i < length h → get_or os i None ≡ order_in g (get_or (keys_of h) i 0)) → os ≡ map (λ e. order_in g e.key) h
same-at [] g [] n f = refl
same-at [] g (o ∷ os) n f = absurd (omega arith)
same-at (e ∷ h) g [] n f = absurd (omega arith)
same-at (e ∷ h) g (o ∷ os) n f =
    let first = f 0 (omega arith) in
    let rest = same-at h g os (omega arith) (λ i l. f (suc i) (omega arith)) in
    cc (first, rest)

pub found-all : (h : List Entry) (os : List (Option (List ℕ))) → AreKeyed h → length os ≡ length h → AreKnown h os → IsClosedTo h os (length h) → os ≡ all_orders h
found-all h os d n k c = same-at h h os n (λ i l. sym (known-at h os i d l) ∙ all-known h os k d n c (get_or (keys_of h) i 0))
