-- Elements by their place, after a write.
use Rattle.class_table.proofs.Below.{ℕ, zero, suc, Bool, true, false, ltb, List, [], length, set, map, Some, inl, inr, refl, ap, sym, ◌∙◌, arith, slice_get, ltb-true, ltb-false, lt-ltb, le-ltb}
use Rattle.std.proofs.Common.{◌≡◌, ◌+◌, ◌<◌, ◌≤◌, ◌∷◌, ◌++◌, ◌⊎◌}

pub get-set_cases : {A : Type 0} (xs : List A) (b : ℕ) (y : A) (i : ℕ) (z : A) → slice_get (set xs b y) i ≡ Some z → ((i ≡ b) × (y ≡ z)) ⊎ ((i ≡ b → ⊥) × (slice_get xs i ≡ Some z))
get-set_cases [] b y i z e = cc
get-set_cases (x ∷ xs) zero y zero z e = inl (refl, cc)
get-set_cases (x ∷ xs) zero y (suc i) z e = inr (λ h. omega arith, e)
get-set_cases (x ∷ xs) (suc b) y zero z e = inr (λ h. omega arith, e)
get-set_cases (x ∷ xs) (suc b) y (suc i) z e =
    elim (get-set_cases xs b y i z e) [ inl a ↦ inl (ap suc a.0, a.1) | inr n ↦ inr (λ h. n.0 (omega arith), n.1) ]

pub get-set_at : {A : Type 0} (xs : List A) (b : ℕ) (y : A) → b < length xs → slice_get (set xs b y) b ≡ Some y
get-set_at [] b y l = absurd (omega arith)
get-set_at (x ∷ xs) zero y l = refl
get-set_at (x ∷ xs) (suc b) y l = get-set_at xs b y (omega arith)

pub get-set_away : {A : Type 0} (xs : List A) (b : ℕ) (y : A) (i : ℕ) → (i ≡ b → ⊥) → slice_get (set xs b y) i ≡ slice_get xs i
get-set_away [] b y i h = refl
get-set_away (x ∷ xs) zero y zero h = absurd (h refl)
get-set_away (x ∷ xs) zero y (suc i) h = refl
get-set_away (x ∷ xs) (suc b) y zero h = refl
get-set_away (x ∷ xs) (suc b) y (suc i) h = get-set_away xs b y i (λ e. h (ap suc e))

pub get-push_cases : {A : Type 0} (xs : List A) (y : A) (i : ℕ) (z : A) → slice_get (xs ++ y ∷ []) i ≡ Some z → (slice_get xs i ≡ Some z) ⊎ ((i ≡ length xs) × (y ≡ z))
get-push_cases [] y zero z e = inr (refl, cc)
get-push_cases [] y (suc i) z e = cc
get-push_cases (x ∷ xs) y zero z e = inl e
get-push_cases (x ∷ xs) y (suc i) z e = elim (get-push_cases xs y i z e) [ inl a ↦ inl a | inr b ↦ inr (ap suc b.0, b.1) ]

below-next : (i n : ℕ) (b : Bool) → (i ≡ n → ⊥) → ltb i n ≡ b → b ≡ ltb i (n + 1)
below-next i n true h e = let l = ltb-true i n e in sym (lt-ltb i (n + 1) (omega arith))
below-next i n false h e = let l = ltb-false i n e in let g : n + 1 ≤ i = omega arith in sym (le-ltb i (n + 1) g)

pub below-apart : (i n : ℕ) → (i ≡ n → ⊥) → ltb i n ≡ ltb i (n + 1)
below-apart i n h = below-next i n (ltb i n) h refl

-- two lists that agree at every place
pub same-maps : {A B : Type 0} (f : A → B) (xs ys : List A) → length ys ≡ length xs → ((i : ℕ) (x : A) → slice_get xs i ≡ Some x → (y : A) × (slice_get ys i ≡ Some y) × (f y ≡ f x)) → map f ys ≡ map f xs
same-maps f [] [] n h = refl
same-maps f [] (y ∷ ys) n h = absurd (omega arith)
same-maps f (x ∷ xs) [] n h = absurd (omega arith)
same-maps f (x ∷ xs) (y ∷ ys) n h =
    let r = h 0 x refl in
    let e : f y ≡ f x = let s : y ≡ r.0 = let p = r.1 in cc in ap f s ∙ r.2 in
    let rest = same-maps f xs ys (omega arith) (λ i z p. h (suc i) z p) in
    cc (e, rest)

pub same-lists : {A : Type 0} (xs ys : List A) → length ys ≡ length xs → ((i : ℕ) (x : A) → slice_get xs i ≡ Some x → slice_get ys i ≡ Some x) → ys ≡ xs
same-lists [] [] n h = refl
same-lists [] (y ∷ ys) n h = absurd (omega arith)
same-lists (x ∷ xs) [] n h = absurd (omega arith)
same-lists (x ∷ xs) (y ∷ ys) n h =
    let e : y ≡ x = let p = h 0 x refl in cc in
    let rest = same-lists xs ys (omega arith) (λ i z p. h (suc i) z p) in
    cc (e, rest)
