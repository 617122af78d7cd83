-- Classes and their lines, one beside the other.
use Rattle.order_check.proofs.Below.{ℕ, zero, suc, List, [], length, get_or, Option, Some, None, inl, inr, refl, sym, ap, subst, ◌∙◌, arith, slice_get, slice_get_past, slice_get_read, Entry, Line, OnBoth}
use Rattle.std.proofs.Common.{◌≡◌, ◌+◌, ◌<◌, ◌≤◌, ◌∷◌, ◌++◌, ◌⊎◌, length-append}

get-before : {A : Type 0} (xs : List A) (x : A) (k : ℕ) → k < length xs → slice_get (xs ++ x ∷ []) k ≡ slice_get xs k
get-before [] x k l = absurd (omega arith)
get-before (y ∷ xs) x zero l = refl
get-before (y ∷ xs) x (suc k) l = get-before xs x k (omega arith)

get-last : {A : Type 0} (xs : List A) (x : A) (k : ℕ) → k ≡ length xs → slice_get (xs ++ x ∷ []) k ≡ Some x
get-last [] x zero e = refl
get-last [] x (suc k) e = absurd (omega (arith, e))
get-last (y ∷ xs) x zero e = absurd (omega (arith, e))
get-last (y ∷ xs) x (suc k) e = get-last xs x k (omega (arith, e))

pub before-or-at : (k n : ℕ) → k < suc n → (k < n) ⊎ (k ≡ n)
before-or-at zero zero l = inr refl
before-or-at zero (suc n) l = inl (omega arith)
before-or-at (suc k) zero l = absurd (omega arith)
before-or-at (suc k) (suc n) l = elim (before-or-at k n (omega arith)) [ inl a ↦ inl (omega arith) | inr e ↦ inr (ap suc e) ]

module _ (P : Entry → Line → Type 0) (h : List Entry) (lines : List Line) where
  -- one more line
  pub one-more : (e : Entry) (x : Line) (place : ℕ) → length lines + 1 ≡ place → place < length h → e ≡ get_or h place e → P e x → ((k : ℕ) → k < length lines → OnBoth P (slice_get h (suc k)) (slice_get lines k)) → (k : ℕ) → k < length (lines ++ x ∷ []) → OnBoth P (slice_get h (suc k)) (slice_get (lines ++ x ∷ []) k)
  one-more e x place n l is p before k m =
      let more : k < suc (length lines) = let s : length (lines ++ x ∷ []) ≡ length lines + 1 = simp length-append refl in omega (arith, s, m) in
      elim (before-or-at k (length lines) more) [
        | inl a ↦ (let Q : Option Line → Type 0 = λ o. OnBoth P (slice_get h (suc k)) o in subst Q (sym (get-before lines x k a)) (before k a))
        | inr e' ↦
            let at : place ≡ suc k = omega (arith, n, e') in
            let here : slice_get h (suc k) ≡ Some e = ap (slice_get h) (sym at) ∙ slice_get_read h (length h) place e refl l is in
            let Q : Option Line → Type 0 = λ o. OnBoth P (slice_get h (suc k)) o in
            let R : Option Entry → Type 0 = λ o. OnBoth P o (Some x) in
            subst Q (sym (get-last lines x k e')) (subst R (sym here) p)
      ]

  -- as many lines as there are classes past the first
  pub all-there : (place : ℕ) → length lines + 1 ≡ place → length h ≤ place → ((k : ℕ) → k < length lines → OnBoth P (slice_get h (suc k)) (slice_get lines k)) → (k : ℕ) → OnBoth P (slice_get h (suc k)) (slice_get lines k)
  all-there place n l before k = elim (split k (length lines)) [
    | inl a ↦ before k a
    | inr b ↦
        let none : slice_get lines k ≡ None = slice_get_past lines k b in
        let past : slice_get h (suc k) ≡ None = slice_get_past h (suc k) (omega (arith, n, l, b)) in
        let Q : Option Line → Type 0 = λ o. OnBoth P (slice_get h (suc k)) o in
        let R : Option Entry → Type 0 = λ o. OnBoth P o None in
        subst Q (sym none) (subst R (sym past) tt)
  ]
    where
      split : (k n : ℕ) → (k < n) ⊎ (n ≤ k)
      split zero zero = inr (omega arith)
      split zero (suc n) = inl (omega arith)
      split (suc k) zero = inr (omega arith)
      split (suc k) (suc n) = elim (split k n) [ inl a ↦ inl (omega arith) | inr b ↦ inr (omega arith) ]
