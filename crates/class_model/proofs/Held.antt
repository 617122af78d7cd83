-- What lists hold, and lists of which some is struck out.
use Rattle.class_model.proofs.Below.{ℕ, suc, Bool, true, false, cond, not, eqb, List, [], map, length, filter, inl, inr, refl, sym, ap, subst, ◌∙◌, arith, eq-eqb, ne_eqb, cases_eq, flat_map, Includes, Distinct, Subsequence, without, unique}
use Rattle.std.proofs.Common.{◌≡◌, ◌<◌, ◌≤◌, ◌∷◌, ◌++◌, ◌⊎◌}

pub Includes-equal : {A : Type 0} (xs : List A) (x y : A) → x ≡ y → Includes xs x → Includes xs y
Includes-equal {A = A} xs x y e h = let P : A → Type 0 = λ z. Includes xs z in subst P e h

pub Includes-left : {A : Type 0} (xs ys : List A) (x : A) → Includes xs x → Includes (xs ++ ys) x
Includes-left [] ys x h = absurd h
Includes-left (y ∷ xs) ys x (inl e) = inl e
Includes-left (y ∷ xs) ys x (inr h) = inr (Includes-left xs ys x h)

pub Includes-right : {A : Type 0} (xs ys : List A) (x : A) → Includes ys x → Includes (xs ++ ys) x
Includes-right [] ys x h = h
Includes-right (y ∷ xs) ys x h = inr (Includes-right xs ys x h)

pub Includes-sides : {A : Type 0} (xs ys : List A) (x : A) → Includes (xs ++ ys) x → Includes xs x ⊎ Includes ys x
Includes-sides [] ys x h = inr h
Includes-sides (y ∷ xs) ys x (inl e) = inl (inl e)
Includes-sides (y ∷ xs) ys x (inr h) = elim (Includes-sides xs ys x h) [ inl a ↦ inl (inr a) | inr b ↦ inr b ]

pub Includes-flat_map : {A B : Type 0} (f : A → List B) (xs : List A) (x : A) (y : B) → Includes xs x → Includes (f x) y → Includes (flat_map f xs) y
Includes-flat_map f [] x y h k = absurd h
Includes-flat_map {B = B} f (z ∷ xs) x y (inl e) k = Includes-left (f z) (flat_map f xs) y (let P : List B → Type 0 = λ l. Includes l y in subst P (ap f (sym e)) k)
Includes-flat_map f (z ∷ xs) x y (inr h) k = Includes-right (f z) (flat_map f xs) y (Includes-flat_map f xs x y h k)

pub from_flat_map : {A B : Type 0} (f : A → List B) (xs : List A) (y : B) → Includes (flat_map f xs) y → (x : A) × Includes xs x × Includes (f x) y
from_flat_map f [] y h = absurd h
from_flat_map f (z ∷ xs) y h =
    elim (Includes-sides (f z) (flat_map f xs) y h) [ inl a ↦ (z, inl refl, a) | inr b ↦ let r = from_flat_map f xs y b in (r.0, inr r.1, r.2) ]

pub Includes-map : {A B : Type 0} (f : A → B) (xs : List A) (x : A) → Includes xs x → Includes (map f xs) (f x)
Includes-map f [] x h = h
Includes-map f (y ∷ xs) x (inl e) = inl (ap f e)
Includes-map f (y ∷ xs) x (inr h) = inr (Includes-map f xs x h)

pub Includes-filter : {A : Type 0} (p : A → Bool) (xs : List A) (x : A) → Includes xs x → p x ≡ true → Includes (filter p xs) x
Includes-filter p [] x h k = h
Includes-filter p (y ∷ xs) x (inl e) k = rw (ap p e ∙ k) (inl e)
Includes-filter p (y ∷ xs) x (inr h) k =
    elim (p y) as (λ b. Includes (cond b (y ∷ filter p xs) (filter p xs)) x) [ true ↦ inr (Includes-filter p xs x h k) | false ↦ Includes-filter p xs x h k ]

pub from_filter : {A : Type 0} (p : A → Bool) (xs : List A) (x : A) → Includes (filter p xs) x → Includes xs x × (p x ≡ true)
from_filter p [] x h = absurd h
from_filter {A = A} p (y ∷ xs) x h = go (p y) refl h (from_filter p xs x)
  where
    go : (b : Bool) → p y ≡ b → Includes (cond b (y ∷ filter p xs) (filter p xs)) x → (Includes (filter p xs) x → Includes xs x × (p x ≡ true)) → Includes (y ∷ xs) x × (p x ≡ true)
    go true e (inl i) more = (inl i, ap p (sym i) ∙ e)
    go true e (inr k) more = let r = more k in (inr r.0, r.1)
    go false e k more = let r = more k in (inr r.0, r.1)

pub Includes-without : (x y : ℕ) (ms : List ℕ) → Includes ms y → (y ≡ x → ⊥) → Includes (without x ms) y
Includes-without x y ms h n = Includes-filter (λ z. not (eqb z x)) ms y h (ap not (ne_eqb y x n))

pub from_without : (x y : ℕ) (ms : List ℕ) → Includes (without x ms) y → Includes ms y × (y ≡ x → ⊥)
from_without x y ms h =
    let r = from_filter (λ z. not (eqb z x)) ms y h in
    (r.0, λ e. let f = ap not (eq-eqb y x e) in cc)

without-fewer : (x : ℕ) (ms : List ℕ) → length (without x ms) ≤ length ms
without-fewer x [] = omega arith
without-fewer x (m ∷ ms) =
    elim (eqb m x) as (λ b. length (cond (not b) (m ∷ without x ms) (without x ms)) ≤ suc (length ms)) [ true ↦ omega (arith, without-fewer x ms) | false ↦ omega (arith, without-fewer x ms) ]

pub length-without : (x : ℕ) (ms : List ℕ) → Includes ms x → length (without x ms) < length ms
length-without x [] h = absurd h
length-without x (m ∷ ms) (inl e) = rw (eq-eqb m x e) (omega (arith, without-fewer x ms))
length-without x (m ∷ ms) (inr h) =
    elim (eqb m x) as (λ b. length (cond (not b) (m ∷ without x ms) (without x ms)) < suc (length ms)) [ true ↦ omega (arith, length-without x ms h) | false ↦ omega (arith, length-without x ms h) ]

-- a list with no repeats is no longer than one that holds all of it
pub distinct-fewer : (xs ms : List ℕ) → Distinct xs → ((y : ℕ) → Includes xs y → Includes ms y) → length xs ≤ length ms
distinct-fewer [] ms d h = omega arith
distinct-fewer (x ∷ xs) ms d h =
    let rest = distinct-fewer xs (without x ms) d.1 (λ y k. Includes-without x y ms (h y (inr k)) (λ e. d.0 (Includes-equal xs y x e k))) in
    let fewer = length-without x ms (h x (inl refl)) in
    omega (arith, rest, fewer)

pub Includes-unique : (xs : List ℕ) (y : ℕ) → Includes xs y → Includes (unique xs) y
Includes-unique [] y h = h
Includes-unique (x ∷ xs) y (inl e) = inl e
Includes-unique (x ∷ xs) y (inr h) = elim (cases_eq y x) [ inl e ↦ inl (sym e) | inr n ↦ inr (Includes-without x y (unique xs) (Includes-unique xs y h) n) ]

pub from_unique : (xs : List ℕ) (y : ℕ) → Includes (unique xs) y → Includes xs y
from_unique [] y h = h
from_unique (x ∷ xs) y (inl e) = inl e
from_unique (x ∷ xs) y (inr h) = inr (from_unique xs y (from_without x y (unique xs) h).0)

pub Subsequence-more : (y : ℕ) (xs ys : List ℕ) → Subsequence xs ys → Subsequence xs (y ∷ ys)
Subsequence-more y [] ys h = tt
Subsequence-more y (x ∷ xs) ys h = inr h

pub Subsequence-skip : (x : ℕ) (xs ys : List ℕ) → Subsequence (x ∷ xs) ys → Subsequence xs ys
Subsequence-skip x xs [] h = absurd h
Subsequence-skip x xs (y ∷ ys) (inl p) = Subsequence-more y xs ys p.1
Subsequence-skip x xs (y ∷ ys) (inr h) = Subsequence-more y xs ys (Subsequence-skip x xs ys h)

pub Subsequence-holds : (l xs : List ℕ) (y : ℕ) → Subsequence l xs → Includes l y → Includes xs y
Subsequence-holds [] xs y s h = absurd h
Subsequence-holds (z ∷ l) [] y s h = absurd s
Subsequence-holds (z ∷ l) (x ∷ xs) y (inl p) (inl e) = inl (sym p.0 ∙ e)
Subsequence-holds (z ∷ l) (x ∷ xs) y (inl p) (inr h) = inr (Subsequence-holds l xs y p.1 h)
Subsequence-holds (z ∷ l) (x ∷ xs) y (inr s) h = inr (Subsequence-holds (z ∷ l) xs y s h)

pub Subsequence-itself : (l : List ℕ) → Subsequence l l
Subsequence-itself [] = tt
Subsequence-itself (x ∷ l) = inl (refl, Subsequence-itself l)

pub Subsequence-length : (l xs : List ℕ) → Subsequence l xs → length l ≤ length xs
Subsequence-length [] xs s = omega arith
Subsequence-length (x ∷ l) [] s = absurd s
Subsequence-length (x ∷ l) (y ∷ xs) (inl p) = omega (arith, Subsequence-length l xs p.1)
Subsequence-length (x ∷ l) (y ∷ xs) (inr s) = omega (arith, Subsequence-length (x ∷ l) xs s)

-- as long as the other: the same
pub Subsequence-full : (l xs : List ℕ) → Subsequence l xs → length xs ≤ length l → l ≡ xs
Subsequence-full [] [] s h = refl
Subsequence-full [] (y ∷ xs) s h = absurd (omega arith)
Subsequence-full (x ∷ l) [] s h = absurd s
Subsequence-full (x ∷ l) (y ∷ xs) (inl p) h = let rest = Subsequence-full l xs p.1 (omega arith) in cc (rest, p.0)
Subsequence-full (x ∷ l) (y ∷ xs) (inr s) h = absurd (omega (arith, Subsequence-length (x ∷ l) xs s))

-- the head of the second list can go where the first does not hold it
pub Subsequence-rest : (l xs : List ℕ) (x : ℕ) → Subsequence l (x ∷ xs) → (Includes l x → ⊥) → Subsequence l xs
Subsequence-rest [] xs x s n = tt
Subsequence-rest (y ∷ l) xs x (inl p) n = absurd (n (inl p.0))
Subsequence-rest (y ∷ l) xs x (inr s) n = s
