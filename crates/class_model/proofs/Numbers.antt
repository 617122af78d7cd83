-- Classes by their numbers.
use Rattle.class_model.proofs.Below.{ℕ, zero, suc, Bool, true, false, cond, eqb, List, [], length, Option, Some, None, inl, inr, refl, sym, ap, subst, ◌∙◌, arith, true≢false, nat_lt, leb, is_some, slice_get, option_map, Decides, eq-eqb, ne_eqb, eqb-true, eqb-false, ltb-true, ltb-false, lt-ltb, le-ltb, le-leb, leb-true, and_parts, false_from_ne_true, map-append, Includes, Class, Classes, class_at, is_class, numbers_of, ascend_from, is_ascending, Ascending, past_all, limit, with_class, with_changed}
use Rattle.std.proofs.Common.{◌≡◌, ◌<◌, ◌≤◌, ◌⊎◌, ◌&&◌, ◌∷◌, ◌++◌}

pub some-of : {A : Type 0} (o : Option A) → is_some o ≡ true → (x : A) × (o ≡ Some x)
some-of None e = absurd (true≢false (sym e))
some-of (Some x) e = (x, refl)

and_both : (a b : Bool) → a ≡ true → b ≡ true → (a && b) ≡ true
and_both a b h k = ap (λ w. w && b) h ∙ k

past_all-head : (x : ℕ) (xs : List ℕ) → (x < past_all (x ∷ xs)) × (past_all xs ≤ past_all (x ∷ xs))
past_all-head x xs = go (nat_lt x (past_all xs)) refl
  where
    go : (b : Bool) → nat_lt x (past_all xs) ≡ b → (x < cond b (past_all xs) (suc x)) × (past_all xs ≤ cond b (past_all xs) (suc x))
    go true e = let l = ltb-true x (past_all xs) e in (l, omega arith)
    go false e = let l = ltb-false x (past_all xs) e in (omega arith, omega arith)

past_all-above : (xs : List ℕ) (x : ℕ) → Includes xs x → x < past_all xs
past_all-above [] x h = absurd h
past_all-above (y ∷ xs) x (inl e) = let p = past_all-head y xs in omega (arith, p.0, e)
past_all-above (y ∷ xs) x (inr h) = let p = past_all-head y xs in let l = past_all-above xs x h in omega (arith, p.1, l)

ascend_from-push : (n : ℕ) (xs : List ℕ) (x : ℕ) → ascend_from n xs ≡ true → past_all xs ≤ x → n ≤ x → ascend_from n (xs ++ x ∷ []) ≡ true
ascend_from-push n [] x e p l = and_both (leb n x) true (le-leb n x l) refl
ascend_from-push n (y ∷ xs) x e p l =
    let q = and_parts (leb n y) (ascend_from (suc y) xs) e in
    let h = past_all-head y xs in
    and_both (leb n y) (ascend_from (suc y) (xs ++ x ∷ [])) q.0 (ascend_from-push (suc y) xs x q.1 (omega (arith, h.1, p)) (omega (arith, h.0, p)))

module _ {K : Type 0} where
  pub at-here : (k : Class K) (t : Classes K) (c : ℕ) → k.number ≡ c → class_at (k ∷ t) c ≡ Some k
  at-here k t c e = ap (λ b. cond b (Some k) (class_at t c)) (eq-eqb k.number c e)

  pub at-past : (k : Class K) (t : Classes K) (c : ℕ) → (k.number ≡ c → ⊥) → class_at (k ∷ t) c ≡ class_at t c
  at-past k t c n = ap (λ b. cond b (Some k) (class_at t c)) (ne_eqb k.number c n)

  -- what is found has the number
  pub at-number : (t : Classes K) (c : ℕ) (k : Class K) → class_at t c ≡ Some k → k.number ≡ c
  at-number [] c k e = cc
  at-number (j ∷ t) c k e = go (eqb j.number c) refl (at-number t c k) e
    where
      go : (b : Bool) → eqb j.number c ≡ b → (class_at t c ≡ Some k → k.number ≡ c) → cond b (Some j) (class_at t c) ≡ Some k → k.number ≡ c
      go true h more e = let s : j ≡ k = cc in ap (λ (x : Class K). x.number) (sym s) ∙ eqb-true j.number c h
      go false h more e = more e

  -- it is in the list
  pub at-place : (t : Classes K) (c : ℕ) (k : Class K) → class_at t c ≡ Some k → (i : ℕ) × (slice_get t i ≡ Some k)
  at-place [] c k e = cc
  at-place (j ∷ t) c k e = go (eqb j.number c) (at-place t c k) e
    where
      go : (b : Bool) → (class_at t c ≡ Some k → (i : ℕ) × (slice_get t i ≡ Some k)) → cond b (Some j) (class_at t c) ≡ Some k → (i : ℕ) × (slice_get (j ∷ t) i ≡ Some k)
      go true more e = (0, e)
      go false more e = let r = more e in (suc r.0, r.1)

  pub number-held : (t : Classes K) (i : ℕ) (k : Class K) → slice_get t i ≡ Some k → Includes (numbers_of t) k.number
  number-held [] i k e = cc
  number-held (j ∷ t) zero k e = let s : j ≡ k = cc in inl (ap (λ (x : Class K). x.number) s)
  number-held (j ∷ t) (suc i) k e = inr (number-held t i k e)

  pub at-held : (t : Classes K) (c : ℕ) → is_class t c ≡ true → Includes (numbers_of t) c
  at-held t c e =
      let r = some-of (class_at t c) e in
      let p = at-place t c r.0 r.1 in
      let s = at-number t c r.0 r.1 in
      let P : ℕ → Type 0 = λ x. Includes (numbers_of t) x in
      subst P s (number-held t p.0 r.0 p.1)

  pub below-limit : (t : Classes K) (c : ℕ) → is_class t c ≡ true → c < limit t
  below-limit t c e = past_all-above (numbers_of t) c (at-held t c e)

  pub none-at : (t : Classes K) (c : ℕ) → limit t ≤ c → is_class t c ≡ false
  none-at t c l = false_from_ne_true (is_class t c) (λ e. let m = below-limit t c e in omega arith)

  -- one more class
  pub at-before : (t : Classes K) (k : Class K) (c : ℕ) → is_class t c ≡ true → class_at (with_class t k) c ≡ class_at t c
  at-before [] k c e = absurd (true≢false (sym e))
  at-before (j ∷ t) k c e = go (eqb j.number c) (at-before t k c) e
    where
      go : (b : Bool) → (is_class t c ≡ true → class_at (with_class t k) c ≡ class_at t c) → is_some (cond b (Some j) (class_at t c)) ≡ true → cond b (Some j) (class_at (with_class t k) c) ≡ cond b (Some j) (class_at t c)
      go true more e = refl
      go false more e = more e

  pub at-other : (t : Classes K) (k : Class K) (c : ℕ) → (k.number ≡ c → ⊥) → class_at (with_class t k) c ≡ class_at t c
  at-other [] k c n = at-past k [] c n
  at-other (j ∷ t) k c n = ap (cond (eqb j.number c) (Some j)) (at-other t k c n)

  at-end : (t : Classes K) (k : Class K) → ((x : ℕ) → Includes (numbers_of t) x → x ≡ k.number → ⊥) → class_at (with_class t k) k.number ≡ Some k
  at-end [] k n = at-here k [] k.number refl
  at-end (j ∷ t) k n =
      at-past j (with_class t k) k.number (n j.number (inl refl)) ∙ at-end t k (λ x h. n x (inr h))

  pub at-last : (t : Classes K) (k : Class K) → limit t ≤ k.number → class_at (with_class t k) k.number ≡ Some k
  at-last t k l = at-end t k (λ x h e. let m = past_all-above (numbers_of t) x h in omega arith)

  pub old-or-last : (t : Classes K) (k : Class K) (c : ℕ) → is_class (with_class t k) c ≡ true → (is_class t c ≡ true) ⊎ (c ≡ k.number)
  old-or-last t k c e = go (eqb k.number c) refl
    where
      go : (b : Bool) → eqb k.number c ≡ b → (is_class t c ≡ true) ⊎ (c ≡ k.number)
      go true h = inr (sym (eqb-true k.number c h))
      go false h = inl (ap is_some (sym (at-other t k c (eqb-false k.number c h))) ∙ e)

  pub ascending-push : (t : Classes K) (k : Class K) → is_ascending t ≡ true → limit t ≤ k.number → is_ascending (with_class t k) ≡ true
  ascending-push t k e l = ap (ascend_from 0) (map-append (λ (j : Class K). j.number) t (k ∷ [])) ∙ ascend_from-push 0 (numbers_of t) k.number e l (omega arith)

  -- in words
  pub no-less : (n : ℕ) (t : Classes K) (i : ℕ) (k : Class K) → ascend_from n (numbers_of t) ≡ true → slice_get t i ≡ Some k → n ≤ k.number
  no-less n [] i k e h = cc
  no-less n (j ∷ t) zero k e h =
      let q = and_parts (leb n j.number) (ascend_from (suc j.number) (numbers_of t)) e in
      let l = leb-true n j.number q.0 in
      let s : j ≡ k = cc in
      let m = ap (λ (x : Class K). x.number) s in
      omega arith
  no-less n (j ∷ t) (suc i) k e h =
      let q = and_parts (leb n j.number) (ascend_from (suc j.number) (numbers_of t)) e in
      let l = leb-true n j.number q.0 in
      let m = no-less (suc j.number) t i k q.1 h in
      omega arith

  ascends : (n : ℕ) (t : Classes K) → ascend_from n (numbers_of t) ≡ true → Ascending t
  ascends n [] e i j a b l h k = cc
  ascends n (x ∷ t) e zero zero a b l h k = absurd (omega arith)
  ascends n (x ∷ t) e zero (suc j) a b l h k =
      let q = and_parts (leb n x.number) (ascend_from (suc x.number) (numbers_of t)) e in
      let m = no-less (suc x.number) t j b q.1 k in
      let s : x ≡ a = cc in
      let o = ap (λ (x : Class K). x.number) s in
      omega arith
  ascends n (x ∷ t) e (suc i) zero a b l h k = absurd (omega arith)
  ascends n (x ∷ t) e (suc i) (suc j) a b l h k =
      ascends (suc x.number) t (and_parts (leb n x.number) (ascend_from (suc x.number) (numbers_of t)) e).1 i j a b (omega arith) h k

  from-words : (n : ℕ) (t : Classes K) → Ascending t → ((k : Class K) → slice_get t 0 ≡ Some k → n ≤ k.number) → ascend_from n (numbers_of t) ≡ true
  from-words n [] a h = refl
  from-words n (x ∷ t) a h =
      and_both (leb n x.number) (ascend_from (suc x.number) (numbers_of t)) (le-leb n x.number (h x refl)) (from-words (suc x.number) t (λ i j b c l p q. a (suc i) (suc j) b c (omega arith) p q) (λ k e. a 0 1 x k (omega arith) refl e))

  pub Decides-ascending : (t : Classes K) → Decides (is_ascending t) (Ascending t)
  Decides-ascending t = (ascends 0 t, λ a. from-words 0 t a (λ k e. omega arith))

  -- a class is found from its place
  at-from : (n : ℕ) (t : Classes K) (i : ℕ) (k : Class K) → ascend_from n (numbers_of t) ≡ true → slice_get t i ≡ Some k → class_at t k.number ≡ Some k
  at-from n [] i k e h = cc
  at-from n (j ∷ t) zero k e h = let s : j ≡ k = cc in at-here j t k.number (ap (λ (x : Class K). x.number) s) ∙ h
  at-from n (j ∷ t) (suc i) k e h =
      let q = and_parts (leb n j.number) (ascend_from (suc j.number) (numbers_of t)) e in
      let m = no-less (suc j.number) t i k q.1 h in
      at-past j t k.number (λ z. omega arith) ∙ at-from (suc j.number) t i k q.1 h

  pub at-from_place : (t : Classes K) (i : ℕ) (k : Class K) → is_ascending t ≡ true → slice_get t i ≡ Some k → class_at t k.number ≡ Some k
  at-from_place t i k e h = at-from 0 t i k e h

  limit-end : (n : ℕ) (t : Classes K) (i : ℕ) (k : Class K) → ascend_from n (numbers_of t) ≡ true → slice_get t i ≡ Some k → length t ≡ suc i → limit t ≡ suc k.number
  limit-end n [] i k e h l = cc
  limit-end n (j ∷ []) zero k e h l =
      let s : j ≡ k = cc in
      ap (λ b. cond b 0 (suc j.number)) (le-ltb j.number 0 (omega arith)) ∙ ap (λ (x : Class K). suc x.number) s
  limit-end n (j ∷ u ∷ t) zero k e h l = absurd (omega arith)
  limit-end n (j ∷ t) (suc i) k e h l =
      let q = and_parts (leb n j.number) (ascend_from (suc j.number) (numbers_of t)) e in
      let m = no-less (suc j.number) t i k q.1 h in
      let r = limit-end (suc j.number) t i k q.1 h (omega arith) in
      ap (λ b. cond b (limit t) (suc j.number)) (lt-ltb j.number (limit t) (omega arith)) ∙ r

  -- the last class has the greatest number
  pub limit-last : (t : Classes K) (i : ℕ) (k : Class K) → is_ascending t ≡ true → slice_get t i ≡ Some k → length t ≡ suc i → limit t ≡ suc k.number
  limit-last t i k e h l = limit-end 0 t i k e h l

  -- a change that keeps the numbers
  module _ (f : Class K → Class K) (keeps : (k : Class K) → (f k).number ≡ k.number) where
    pub numbers-changed : (t : Classes K) (c : ℕ) → numbers_of (with_changed f t c) ≡ numbers_of t
    numbers-changed [] c = refl
    numbers-changed (k ∷ t) c =
        elim (eqb k.number c) as (λ b. numbers_of (cond b (f k ∷ t) (k ∷ with_changed f t c)) ≡ numbers_of (k ∷ t)) [ true ↦ ap (λ n. n ∷ numbers_of t) (keeps k) | false ↦ ap (λ ns. k.number ∷ ns) (numbers-changed t c) ]

    -- what the change keeps of a class, it keeps of each
    pub at-changed : {A : Type 0} (g : Option (Class K) → A) → ((k : Class K) → g (Some (f k)) ≡ g (Some k)) → (t : Classes K) (c x : ℕ) → g (class_at (with_changed f t c) x) ≡ g (class_at t x)
    at-changed g h [] c x = refl
    at-changed {A = A} g h (k ∷ t) c x =
        elim (eqb k.number c) as (λ b. g (class_at (cond b (f k ∷ t) (k ∷ with_changed f t c)) x) ≡ g (class_at (k ∷ t) x)) [
          | true ↦ ap (λ n. g (cond (eqb n x) (Some (f k)) (class_at t x))) (keeps k) ∙ elim (eqb k.number x) as (λ b. g (cond b (Some (f k)) (class_at t x)) ≡ g (cond b (Some k) (class_at t x))) [ true ↦ h k | false ↦ refl ]
          | false ↦ elim (eqb k.number x) as (λ b. g (cond b (Some k) (class_at (with_changed f t c) x)) ≡ g (cond b (Some k) (class_at t x))) [ true ↦ refl | false ↦ at-changed g h t c x ]
        ]

    pub at-changed_away : (t : Classes K) (c x : ℕ) → (x ≡ c → ⊥) → class_at (with_changed f t c) x ≡ class_at t x
    at-changed_away [] c x n = refl
    at-changed_away (k ∷ t) c x n = go (eqb k.number c) refl (at-changed_away t c x n)
      where
        go : (b : Bool) → eqb k.number c ≡ b → class_at (with_changed f t c) x ≡ class_at t x → class_at (cond b (f k ∷ t) (k ∷ with_changed f t c)) x ≡ class_at (k ∷ t) x
        go true e more =
            let away : k.number ≡ x → ⊥ = λ i. n (sym i ∙ eqb-true k.number c e) in
            at-past (f k) t x (λ i. away (sym (keeps k) ∙ i)) ∙ sym (at-past k t x away)
        go false e more = ap (cond (eqb k.number x) (Some k)) more

    pub at-changed_here : (t : Classes K) (c : ℕ) → class_at (with_changed f t c) c ≡ option_map f (class_at t c)
    at-changed_here [] c = refl
    at-changed_here (k ∷ t) c = go (eqb k.number c) refl (at-changed_here t c)
      where
        go : (b : Bool) → eqb k.number c ≡ b → class_at (with_changed f t c) c ≡ option_map f (class_at t c) → class_at (cond b (f k ∷ t) (k ∷ with_changed f t c)) c ≡ option_map f (cond b (Some k) (class_at t c))
        go true e more = at-here (f k) t c (keeps k ∙ eqb-true k.number c e)
        go false e more = at-past k (with_changed f t c) c (eqb-false k.number c e) ∙ more

    pub length-changed : (t : Classes K) (c : ℕ) → length (with_changed f t c) ≡ length t
    length-changed [] c = refl
    length-changed (k ∷ t) c =
        elim (eqb k.number c) as (λ b. length (cond b (f k ∷ t) (k ∷ with_changed f t c)) ≡ suc (length t)) [ true ↦ refl | false ↦ ap suc (length-changed t c) ]
