-- How deep bases go does not matter: as many steps as there are classes are enough.
use Rattle.class_model.proofs.Below.{ℕ, zero, suc, Bool, true, false, List, [], length, Option, Some, inl, inr, refl, sym, ap, subst, ◌∙◌, arith, flat_map, false≢true, has, linear, Includes}
use Rattle.std.proofs.Common.{◌≡◌, ◌≤◌, ◌∷◌}
use Rattle.class_model.proofs.Held.{Includes-equal, Includes-flat_map, from_flat_map, Subsequence-holds, Subsequence-rest, Subsequence-length}
use Rattle.class_model.proofs.Tests.{Decides-has}
use Rattle.class_model.proofs.Arranged.{least_order-order}
use Rattle.class_model.proofs.Linear.{linear-made, linear-from, linear-zero, linear-grows, linear-order, all_some-at, all_some-holds}

module _ (bases : ℕ → Option (List ℕ)) where
  -- each class along a linearisation has one, no deeper
  pub linear-member : (n c : ℕ) (xs : List ℕ) (x : ℕ) → linear bases n c ≡ Some xs → Includes xs x → (ys : List ℕ) × (linear bases n x ≡ Some ys)
  linear-member zero c xs x e h = absurd (linear-zero bases c xs e)
  linear-member (suc n) c xs x e h =
      let made = linear-made bases n c xs e in
      let o = least_order-order c made.direct made.lines xs made.is in
      elim (o.members_only x h) [
        | inl i ↦ (xs, ap (linear bases (suc n)) (sym i) ∙ e)
        | inr k ↦
            let r = from_flat_map (λ l. l) made.lines x k in
            let b = all_some-holds (linear bases n) made.direct made.lines r.0 made.of_bases r.1 in
            let q = linear-member n b.0 r.0 x b.2 r.2 in
            (q.0, linear-grows bases bases (λ d bs p. p) n (suc n) (omega arith) x q.0 q.1)
      ]

  -- the classes of a linearisation have bases
  pub linear-known : (n c : ℕ) (xs : List ℕ) → linear bases n c ≡ Some xs → (bs : List ℕ) × (bases c ≡ Some bs)
  linear-known zero c xs e = absurd (linear-zero bases c xs e)
  linear-known (suc n) c xs e = let made = linear-made bases n c xs e in (made.direct, made.of_class)

  -- a class's bases are along its linearisation
  pub linear-bases : (n c : ℕ) (xs bs : List ℕ) (x : ℕ) → linear bases n c ≡ Some xs → bases c ≡ Some bs → Includes bs x → Includes xs x
  linear-bases zero c xs bs x e h k = absurd (linear-zero bases c xs e)
  linear-bases (suc n) c xs bs x e h k =
      let made = linear-made bases n c xs e in
      let o = least_order-order c made.direct made.lines xs made.is in
      let s : bs ≡ made.direct = let p = made.of_class in cc in
      let P : List ℕ → Type 0 = λ w. Includes w x in
      Subsequence-holds made.direct xs x o.keeps_bases (subst P s k)

  -- a linearisation is depth enough for itself
  pub linear-length : (n c : ℕ) (xs : List ℕ) (k : ℕ) → linear bases n c ≡ Some xs → length xs ≤ k → linear bases k c ≡ Some xs
  linear-length zero c xs k e l = absurd (linear-zero bases c xs e)
  linear-length (suc n) c [] k e l = absurd ((linear-order bases (suc n) c [] e).0)
  linear-length (suc n) c (x ∷ xs) zero e l = absurd (omega arith)
  linear-length (suc n) c (x ∷ xs) (suc k) e l =
      go (has (flat_map (λ l. l) (linear-made bases n c (x ∷ xs) e).lines) c) refl (linear-length n)
    where
      go : (b : Bool) → has (flat_map (λ l. l) (linear-made bases n c (x ∷ xs) e).lines) c ≡ b → ((d : ℕ) (ys : List ℕ) (j : ℕ) → linear bases n d ≡ Some ys → length ys ≤ j → linear bases j d ≡ Some ys) → linear bases (suc k) c ≡ Some (x ∷ xs)
      go true t deep =
          let m = linear-made bases n c (x ∷ xs) e in
          let r = from_flat_map (λ l. l) m.lines c ((Decides-has (flat_map (λ l. l) m.lines) c).0 t) in
          let b = all_some-holds (linear bases n) m.direct m.lines r.0 m.of_bases r.1 in
          let q = linear-member n b.0 r.0 c b.2 r.2 in
          let up = linear-grows bases bases (λ d bs p. p) n (suc n) (omega arith) c q.0 q.1 in
          let same : linear bases n c ≡ Some (x ∷ xs) = cc (q.1, up, e) in
          deep c (x ∷ xs) (suc k) same l
      go false t deep =
          let m = linear-made bases n c (x ∷ xs) e in
          let o = least_order-order c m.direct m.lines (x ∷ xs) m.is in
          let away : (y : List ℕ) → Includes m.lines y → Includes y x → ⊥ =
          λ y h p. false≢true (sym t ∙ (Decides-has (flat_map (λ l. l) m.lines) c).1 (Includes-flat_map (λ l. l) m.lines y c h (Includes-equal y x c o.begins p))) in
          let shorter : (y : List ℕ) → Includes m.lines y → length y ≤ k = λ y h. let r = Subsequence-length y xs (Subsequence-rest y xs x (o.keeps y h) (away y h)) in omega (arith, r, l) in
          linear-from bases k c (x ∷ xs) m.direct m.lines m.of_class (all_some-at (linear bases n) (linear bases k) m.direct m.lines (λ b y p h q. deep b y k q (shorter y h)) m.of_bases) m.is

  -- what a member's linearisation holds, the whole one holds
  pub linear-inside : (n c : ℕ) (xs : List ℕ) (x : ℕ) (ys : List ℕ) (y : ℕ) → linear bases n c ≡ Some xs → Includes xs x → linear bases n x ≡ Some ys → Includes ys y → Includes xs y
  linear-inside zero c xs x ys y e h f k = absurd (linear-zero bases c xs e)
  linear-inside (suc n) c xs x ys y e h f k =
      let made = linear-made bases n c xs e in
      let o = least_order-order c made.direct made.lines xs made.is in
      elim (o.members_only x h) [
        | inl i ↦ let same : ys ≡ xs = let g = ap (linear bases (suc n)) i in cc in let P : List ℕ → Type 0 = λ w. Includes w y in subst P same k
        | inr p ↦
            let r = from_flat_map (λ l. l) made.lines x p in
            let b = all_some-holds (linear bases n) made.direct made.lines r.0 made.of_bases r.1 in
            let q = linear-member n b.0 r.0 x b.2 r.2 in
            let up = linear-grows bases bases (λ d bs p. p) n (suc n) (omega arith) x q.0 q.1 in
            let same : linear bases n x ≡ Some ys = cc (q.1, up, f) in
            o.all_members y (inr (Includes-flat_map (λ l. l) made.lines r.0 y r.1 (linear-inside n b.0 r.0 x ys y b.2 r.2 same k)))
      ]
