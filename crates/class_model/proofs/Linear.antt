-- Linearisations by depth: what they are made of, and what they depend on.
use Rattle.class_model.proofs.Below.{ℕ, zero, suc, List, [], map, Option, Some, None, inl, inr, refl, sym, ap, subst, ◌∙◌, arith, option_map, option_and_then, least_order, all_some, linear, Includes, Distinct, BeginsWith}
use Rattle.std.proofs.Common.{◌≡◌, ◌≤◌, ◌∷◌}
use Rattle.class_model.proofs.Arranged.{least_order-order}

-- where a linearisation comes from
pub record Made (bases : ℕ → Option (List ℕ)) (n c : ℕ) (xs : List ℕ) : Type 0 where
  pub direct : List ℕ
  pub lines : List (List ℕ)
  pub of_class : bases c ≡ Some direct
  pub of_bases : all_some (map (linear bases n) direct) ≡ Some lines
  pub is : least_order c direct lines ≡ Some xs

pub linear-made : (bases : ℕ → Option (List ℕ)) (n c : ℕ) (xs : List ℕ) → linear bases (suc n) c ≡ Some xs → Made bases n c xs
unfolding linear
linear-made bases n c xs e = go (bases c) refl e
  where
    deep : (bs : List ℕ) → bases c ≡ Some bs → (o : Option (List (List ℕ))) → all_some (map (linear bases n) bs) ≡ o → option_and_then (least_order c bs) o ≡ Some xs → Made bases n c xs
    deep bs h None k e = cc
    deep bs h (Some ls) k e = record { direct = bs; lines = ls; of_class = h; of_bases = k; is = e }

    go : (o : Option (List ℕ)) → bases c ≡ o → option_and_then (λ bs. option_and_then (least_order c bs) (all_some (map (linear bases n) bs))) o ≡ Some xs → Made bases n c xs
    go None h e = cc
    go (Some bs) h e = deep bs h (all_some (map (linear bases n) bs)) refl e

pub linear-from : (bases : ℕ → Option (List ℕ)) (n c : ℕ) (xs bs : List ℕ) (ls : List (List ℕ)) → bases c ≡ Some bs → all_some (map (linear bases n) bs) ≡ Some ls → least_order c bs ls ≡ Some xs → linear bases (suc n) c ≡ Some xs
unfolding linear
linear-from bases n c xs bs ls h k e =
    ap (option_and_then (λ bs. option_and_then (least_order c bs) (all_some (map (linear bases n) bs)))) h ∙ ap (option_and_then (least_order c bs)) k ∙ e

pub linear-zero : (bases : ℕ → Option (List ℕ)) (c : ℕ) (xs : List ℕ) → linear bases zero c ≡ Some xs → ⊥
unfolding linear
linear-zero bases c xs e = cc

-- the lines of the bases are there again where each base has its line again
pub all_some-at : (f g : ℕ → Option (List ℕ)) (bs : List ℕ) (ls : List (List ℕ)) → ((b : ℕ) (l : List ℕ) → Includes bs b → Includes ls l → f b ≡ Some l → g b ≡ Some l) → all_some (map f bs) ≡ Some ls → all_some (map g bs) ≡ Some ls
all_some-at f g [] ls h e = e
all_some-at f g (b ∷ bs) ls h e = go (f b) (λ l k. h b l (inl refl) k) (λ ms k r. all_some-at f g bs ms (λ a l p q. h a l (inr p) (k l q)) r) e
  where
    push : (l : List ℕ) (r : Option (List (List ℕ))) → (Includes ls l → g b ≡ Some l) → ((ms : List (List ℕ)) → ((m : List ℕ) → Includes ms m → Includes ls m) → r ≡ Some ms → all_some (map g bs) ≡ Some ms) → option_map (λ xs. l ∷ xs) r ≡ Some ls → all_some (g b ∷ map g bs) ≡ Some ls
    push l None k more e = cc
    push l (Some ms) k more e =
        let s : l ∷ ms ≡ ls = cc in
        let within : (m : List ℕ) → Includes (l ∷ ms) m → Includes ls m = λ m. let Q : List (List ℕ) → Type 0 = λ w. Includes w m in subst Q s in
        rw (k (within l (inl refl))) (ap (option_map (λ xs. l ∷ xs)) (more ms (λ m q. within m (inr q)) refl) ∙ e)

    go : (o : Option (List ℕ)) → ((l : List ℕ) → Includes ls l → o ≡ Some l → g b ≡ Some l) → ((ms : List (List ℕ)) → ((m : List ℕ) → Includes ms m → Includes ls m) → all_some (map f bs) ≡ Some ms → all_some (map g bs) ≡ Some ms) → all_some (o ∷ map f bs) ≡ Some ls → all_some (g b ∷ map g bs) ≡ Some ls
    go None k more e = cc
    go (Some l) k more e = push l (all_some (map f bs)) (λ q. k l q refl) more e

-- more bases that are known, and more depth, change no linearisation that there is
pub linear-grows : (small large : ℕ → Option (List ℕ)) → ((c : ℕ) (bs : List ℕ) → small c ≡ Some bs → large c ≡ Some bs) → (n m : ℕ) → n ≤ m → (c : ℕ) (xs : List ℕ) → linear small n c ≡ Some xs → linear large m c ≡ Some xs
linear-grows small large h zero m le c xs e = absurd (linear-zero small c xs e)
linear-grows small large h (suc n) zero le c xs e = absurd (omega arith)
linear-grows small large h (suc n) (suc m) le c xs e =
    let made = linear-made small n c xs e in
    linear-from large m c xs made.direct made.lines (h c made.direct made.of_class) (all_some-at (linear small n) (linear large m) made.direct made.lines (λ b l p q. linear-grows small large h n m (omega arith) b l) made.of_bases) made.is

-- it depends on the bases alone
pub linear-same : (f g : ℕ → Option (List ℕ)) → ((c : ℕ) → f c ≡ g c) → (n c : ℕ) → linear f n c ≡ linear g n c
linear-same f g h n c = go (linear f n c) refl (linear g n c) refl
  where
    go : (r : Option (List ℕ)) → linear f n c ≡ r → (q : Option (List ℕ)) → linear g n c ≡ q → r ≡ q
    go None e None k = refl
    go (Some xs) e q k = sym (linear-grows f g (λ d bs p. sym (h d) ∙ p) n n (omega arith) c xs e) ∙ k
    go None e (Some ys) k = sym e ∙ linear-grows g f (λ d bs p. h d ∙ p) n n (omega arith) c ys k

pub linear-order : (bases : ℕ → Option (List ℕ)) (n c : ℕ) (xs : List ℕ) → linear bases n c ≡ Some xs → BeginsWith c xs × Distinct xs
linear-order bases zero c xs e = absurd (linear-zero bases c xs e)
linear-order bases (suc n) c xs e =
    let made = linear-made bases n c xs e in
    let o = least_order-order c made.direct made.lines xs made.is in
    (o.begins, o.distinct)

-- each line comes of a base
pub all_some-holds : (f : ℕ → Option (List ℕ)) (bs : List ℕ) (ls : List (List ℕ)) (l : List ℕ) → all_some (map f bs) ≡ Some ls → Includes ls l → (b : ℕ) × Includes bs b × (f b ≡ Some l)
all_some-holds f [] [] l e h = absurd h
all_some-holds f [] (m ∷ ls) l e h = cc
all_some-holds f (b ∷ bs) ls l e h = go (f b) refl (all_some-holds f bs) e
  where
    push : (m : List ℕ) → f b ≡ Some m → (r : Option (List (List ℕ))) → ((ms : List (List ℕ)) (w : List ℕ) → r ≡ Some ms → Includes ms w → (x : ℕ) × Includes bs x × (f x ≡ Some w)) → option_map (λ xs. m ∷ xs) r ≡ Some ls → (x : ℕ) × Includes (b ∷ bs) x × (f x ≡ Some l)
    push m q None more e = cc
    push m q (Some ms) more e =
        let s : m ∷ ms ≡ ls = cc in
        let P : List (List ℕ) → Type 0 = λ w. Includes w l in
        elim (subst P (sym s) h) [ inl i ↦ (b, inl refl, q ∙ ap Some i) | inr k ↦ let r = more ms l refl k in (r.0, inr r.1, r.2) ]

    go : (o : Option (List ℕ)) → f b ≡ o → ((ms : List (List ℕ)) (w : List ℕ) → all_some (map f bs) ≡ Some ms → Includes ms w → (x : ℕ) × Includes bs x × (f x ≡ Some w)) → all_some (o ∷ map f bs) ≡ Some ls → (x : ℕ) × Includes (b ∷ bs) x × (f x ≡ Some l)
    go None q more e = cc
    go (Some m) q more e = push m q (all_some (map f bs)) more e

-- each base has a line
pub all_some-has : (f : ℕ → Option (List ℕ)) (bs : List ℕ) (ls : List (List ℕ)) (b : ℕ) → all_some (map f bs) ≡ Some ls → Includes bs b → (l : List ℕ) × Includes ls l × (f b ≡ Some l)
all_some-has f [] ls b e h = absurd h
all_some-has f (x ∷ bs) ls b e h = go (f x) refl (λ ms. all_some-has f bs ms b) e h
  where
    push : (l : List ℕ) → f x ≡ Some l → (r : Option (List (List ℕ))) → ((ms : List (List ℕ)) → r ≡ Some ms → Includes bs b → (k : List ℕ) × Includes ms k × (f b ≡ Some k)) → option_map (λ xs. l ∷ xs) r ≡ Some ls → Includes (x ∷ bs) b → (k : List ℕ) × Includes ls k × (f b ≡ Some k)
    push l q None more e h = cc
    push l q (Some ms) more e (inl i) = let s : l ∷ ms ≡ ls = cc in let P : List (List ℕ) → Type 0 = λ w. Includes w l in (l, subst P s (inl refl), ap f (sym i) ∙ q)
    push l q (Some ms) more e (inr h) = let s : l ∷ ms ≡ ls = cc in let r = more ms refl h in let P : List (List ℕ) → Type 0 = λ w. Includes w r.0 in (r.0, subst P s (inr r.1), r.2)

    go : (o : Option (List ℕ)) → f x ≡ o → ((ms : List (List ℕ)) → all_some (map f bs) ≡ Some ms → Includes bs b → (k : List ℕ) × Includes ms k × (f b ≡ Some k)) → all_some (o ∷ map f bs) ≡ Some ls → Includes (x ∷ bs) b → (k : List ℕ) × Includes ls k × (f b ≡ Some k)
    go None q more e h = cc
    go (Some l) q more e h = push l q (all_some (map f bs)) more e h
