-- The direct subclasses of a class where one class has other bases: those of now, with that class in its place or without it.
use Rattle.class_table.proofs.Below.{ℕ, suc, Bool, true, false, cond, eqb, List, [], filter, Some, refl, sym, ap, ◌∙◌, append_assoc, arith, slice_get, leb, nat_lt, is_some, false≢true, eqb-true, leb-true, lt-ltb, le-ltb, and_parts, has, class_at, is_class, subclasses, numbers_of, ascend_from, is_ascending, with_bases, StoredClass, class_of, classes_of}
use Rattle.std.proofs.Common.{◌≡◌, ◌<◌, ◌≤◌, ◌∷◌, ◌++◌}
use Rattle.class_table.proofs.Blames.{under, under-past, under-is}

-- the classes that are there past a number are greater
past : (c m : ℕ) (kept : List StoredClass) → ascend_from m (numbers_of (classes_of kept)) ≡ true → is_class (classes_of kept) c ≡ true → m ≤ c
past c m [] up h = absurd (false≢true h)
past c m (k ∷ kept) up h = go (eqb k.number c) refl h (past c (suc k.number) kept q.1)
  where
    q : (leb m k.number ≡ true) × (ascend_from (suc k.number) (numbers_of (classes_of kept)) ≡ true)
    q = and_parts (leb m k.number) (ascend_from (suc k.number) (numbers_of (classes_of kept))) up

    go : (b : Bool) → eqb k.number c ≡ b → is_some (cond b (Some (class_of k)) (class_at (classes_of kept) c)) ≡ true → (is_class (classes_of kept) c ≡ true → suc k.number ≤ c) → m ≤ c
    go true e h more = let s = eqb-true k.number c e in let l = leb-true m k.number q.0 in omega (arith, s, l)
    go false e h more = let r = more h in let l = leb-true m k.number q.0 in omega (arith, r, l)

module _ (c : ℕ) (bs : List ℕ) (n : ℕ) where
  lesser : List ℕ → List ℕ
  lesser xs = filter (λ x. nat_lt x c) xs

  greater : List ℕ → List ℕ
  greater xs = filter (λ x. nat_lt c x) xs

  -- among classes past the changed one none is less
  past-lesser : (m : ℕ) (kept : List StoredClass) → c < m → ascend_from m (numbers_of (classes_of kept)) ≡ true → lesser (subclasses (classes_of kept) n) ≡ []
  unfolding lesser
  past-lesser m [] l up = refl
  past-lesser m (k ∷ kept) l up = go (has k.bases n) (past-lesser (suc k.number) kept (omega (arith, l, low)) q.1)
    where
      q : (leb m k.number ≡ true) × (ascend_from (suc k.number) (numbers_of (classes_of kept)) ≡ true)
      q = and_parts (leb m k.number) (ascend_from (suc k.number) (numbers_of (classes_of kept))) up

      low : m ≤ k.number
      low = leb-true m k.number q.0

      go : (b : Bool) → filter (λ x. nat_lt x c) (subclasses (classes_of kept) n) ≡ [] → filter (λ x. nat_lt x c) (cond b (k.number ∷ subclasses (classes_of kept) n) (subclasses (classes_of kept) n)) ≡ []
      go true r = ap (λ b. cond b (k.number ∷ filter (λ x. nat_lt x c) (subclasses (classes_of kept) n)) (filter (λ x. nat_lt x c) (subclasses (classes_of kept) n))) (le-ltb k.number c (omega (arith, l, low))) ∙ r
      go false r = r

  -- and all are greater
  past-greater : (m : ℕ) (kept : List StoredClass) → c < m → ascend_from m (numbers_of (classes_of kept)) ≡ true → greater (subclasses (classes_of kept) n) ≡ subclasses (classes_of kept) n
  unfolding greater
  past-greater m [] l up = refl
  past-greater m (k ∷ kept) l up = go (has k.bases n) (past-greater (suc k.number) kept (omega (arith, l, low)) q.1)
    where
      q : (leb m k.number ≡ true) × (ascend_from (suc k.number) (numbers_of (classes_of kept)) ≡ true)
      q = and_parts (leb m k.number) (ascend_from (suc k.number) (numbers_of (classes_of kept))) up

      low : m ≤ k.number
      low = leb-true m k.number q.0

      go : (b : Bool) → filter (λ x. nat_lt c x) (subclasses (classes_of kept) n) ≡ subclasses (classes_of kept) n → filter (λ x. nat_lt c x) (cond b (k.number ∷ subclasses (classes_of kept) n) (subclasses (classes_of kept) n)) ≡ cond b (k.number ∷ subclasses (classes_of kept) n) (subclasses (classes_of kept) n)
      go true r = ap (λ b. cond b (k.number ∷ filter (λ x. nat_lt c x) (subclasses (classes_of kept) n)) (filter (λ x. nat_lt c x) (subclasses (classes_of kept) n))) (lt-ltb c k.number (omega (arith, l, low))) ∙ ap (λ ys. k.number ∷ ys) r
      go false r = r

  listed-from : (m : ℕ) (kept : List StoredClass) → ascend_from m (numbers_of (classes_of kept)) ≡ true → is_class (classes_of kept) c ≡ true → subclasses (under c bs kept) n ≡ lesser (subclasses (classes_of kept) n) ++ (cond (has bs n) (c ∷ []) [] ++ greater (subclasses (classes_of kept) n))
  unfolding lesser greater
  listed-from m [] up h = absurd (false≢true h)
  listed-from m (k ∷ kept) up h = go (eqb k.number c) refl h (listed-from (suc k.number) kept q.1)
    where
      q : (leb m k.number ≡ true) × (ascend_from (suc k.number) (numbers_of (classes_of kept)) ≡ true)
      q = and_parts (leb m k.number) (ascend_from (suc k.number) (numbers_of (classes_of kept))) up

      -- the changed class itself
      own : (w d : Bool) → k.number ≡ c → (xs ys : List ℕ) → xs ≡ ys → filter (λ x. nat_lt x c) ys ≡ [] → filter (λ x. nat_lt c x) ys ≡ ys → cond w (k.number ∷ xs) xs ≡ filter (λ x. nat_lt x c) (cond d (k.number ∷ ys) ys) ++ (cond w (c ∷ []) [] ++ filter (λ x. nat_lt c x) (cond d (k.number ∷ ys) ys))
      own w d s xs ys e a b =
          head w
          ∙ sym (ap (λ zs. zs ++ (cond w (c ∷ []) [] ++ filter (λ x. nat_lt c x) (cond d (k.number ∷ ys) ys))) (before d) ∙ ap (λ zs. cond w (c ∷ []) [] ++ zs) (after d))
        where
          before : (d : Bool) → filter (λ x. nat_lt x c) (cond d (k.number ∷ ys) ys) ≡ []
          before true = ap (λ t. cond t (k.number ∷ filter (λ x. nat_lt x c) ys) (filter (λ x. nat_lt x c) ys)) (le-ltb k.number c (omega (arith, s))) ∙ a
          before false = a

          after : (d : Bool) → filter (λ x. nat_lt c x) (cond d (k.number ∷ ys) ys) ≡ ys
          after true = ap (λ t. cond t (k.number ∷ filter (λ x. nat_lt c x) ys) (filter (λ x. nat_lt c x) ys)) (le-ltb c k.number (omega (arith, s))) ∙ b
          after false = b

          head : (w : Bool) → cond w (k.number ∷ xs) xs ≡ cond w (c ∷ []) [] ++ ys
          head true = ap (λ z. z ∷ xs) s ∙ ap (λ zs. c ∷ zs) e
          head false = e

      -- a class before it
      other : (d : Bool) → k.number < c → (xs ys mid : List ℕ) → xs ≡ filter (λ x. nat_lt x c) ys ++ (mid ++ filter (λ x. nat_lt c x) ys) → cond d (k.number ∷ xs) xs ≡ filter (λ x. nat_lt x c) (cond d (k.number ∷ ys) ys) ++ (mid ++ filter (λ x. nat_lt c x) (cond d (k.number ∷ ys) ys))
      other false l xs ys mid e = e
      other true l xs ys mid e =
          ap (λ zs. k.number ∷ zs) e
          ∙ sym (
          ap (λ t. cond t (k.number ∷ filter (λ x. nat_lt x c) ys) (filter (λ x. nat_lt x c) ys) ++ (mid ++ cond (nat_lt c k.number) (k.number ∷ filter (λ x. nat_lt c x) ys) (filter (λ x. nat_lt c x) ys))) (lt-ltb k.number c l)
          ∙ ap (λ t. (k.number ∷ filter (λ x. nat_lt x c) ys) ++ (mid ++ cond t (k.number ∷ filter (λ x. nat_lt c x) ys) (filter (λ x. nat_lt c x) ys))) (le-ltb c k.number (omega (arith, l)))
          )

      go : (b : Bool) → eqb k.number c ≡ b → is_some (cond b (Some (class_of k)) (class_at (classes_of kept) c)) ≡ true → (is_class (classes_of kept) c ≡ true → subclasses (under c bs kept) n ≡ filter (λ x. nat_lt x c) (subclasses (classes_of kept) n) ++ (cond (has bs n) (c ∷ []) [] ++ filter (λ x. nat_lt c x) (subclasses (classes_of kept) n))) → cond (has (cond b bs k.bases) n) (k.number ∷ subclasses (under c bs kept) n) (subclasses (under c bs kept) n) ≡ filter (λ x. nat_lt x c) (cond (has k.bases n) (k.number ∷ subclasses (classes_of kept) n) (subclasses (classes_of kept) n)) ++ (cond (has bs n) (c ∷ []) [] ++ filter (λ x. nat_lt c x) (cond (has k.bases n) (k.number ∷ subclasses (classes_of kept) n) (subclasses (classes_of kept) n)))
      go true e h more =
          let s = eqb-true k.number c e in
          own (has bs n) (has k.bases n) s (subclasses (under c bs kept) n) (subclasses (classes_of kept) n) (ap (λ t. subclasses t n) (under-past c bs (suc k.number) kept (omega (arith, s)) q.1)) (past-lesser (suc k.number) kept (omega (arith, s)) q.1) (past-greater (suc k.number) kept (omega (arith, s)) q.1)
      go false e h more =
          let l = past c (suc k.number) kept q.1 h in
          other (has k.bases n) (omega (arith, l)) (subclasses (under c bs kept) n) (subclasses (classes_of kept) n) (cond (has bs n) (c ∷ []) []) (more h)

  pub listed : (kept : List StoredClass) → is_ascending (classes_of kept) ≡ true → is_class (classes_of kept) c ≡ true → subclasses (with_bases (classes_of kept) c bs) n ≡ filter (λ x. nat_lt x c) (subclasses (classes_of kept) n) ++ (cond (has bs n) (c ∷ []) [] ++ filter (λ x. nat_lt c x) (subclasses (classes_of kept) n))
  unfolding lesser greater
  listed kept up here = ap (λ t. subclasses t n) (sym (under-is kept up c bs)) ∙ listed-from 0 kept up here

  -- a class that is neither a base nor was one
  unlisted-from : (kept : List StoredClass) → ((i : ℕ) (k : StoredClass) → slice_get kept i ≡ Some k → k.number ≡ c → has bs n ≡ has k.bases n) → subclasses (under c bs kept) n ≡ subclasses (classes_of kept) n
  unlisted-from [] h = refl
  unlisted-from (k ∷ kept) h = go (eqb k.number c) refl (unlisted-from kept (λ i m e. h (suc i) m e))
    where
      go : (b : Bool) → eqb k.number c ≡ b → subclasses (under c bs kept) n ≡ subclasses (classes_of kept) n → cond (has (cond b bs k.bases) n) (k.number ∷ subclasses (under c bs kept) n) (subclasses (under c bs kept) n) ≡ cond (has k.bases n) (k.number ∷ subclasses (classes_of kept) n) (subclasses (classes_of kept) n)
      go true e r =
          ap (λ d. cond d (k.number ∷ subclasses (under c bs kept) n) (subclasses (under c bs kept) n)) (h 0 k refl (eqb-true k.number c e))
          ∙ ap (λ ys. cond (has k.bases n) (k.number ∷ ys) ys) r
      go false e r = ap (λ ys. cond (has k.bases n) (k.number ∷ ys) ys) r

  pub unlisted : (kept : List StoredClass) → is_ascending (classes_of kept) ≡ true → ((i : ℕ) (k : StoredClass) → slice_get kept i ≡ Some k → k.number ≡ c → has bs n ≡ has k.bases n) → subclasses (with_bases (classes_of kept) c bs) n ≡ subclasses (classes_of kept) n
  unlisted kept up h = ap (λ t. subclasses t n) (sym (under-is kept up c bs)) ∙ unlisted-from kept h

pub joined : (low mid high first second third : List ℕ) → first ≡ low → second ≡ first ++ mid → third ≡ second ++ high → third ≡ low ++ (mid ++ high)
joined low mid high first second third a b d = d ∙ ap (λ z. z ++ high) (b ∙ ap (λ z. z ++ mid) a) ∙ append_assoc low mid high
