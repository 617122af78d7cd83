-- Entries, their keys, and what is known of them, by their places.
use Rattle.order_check.proofs.Below.{ℕ, zero, suc, Bool, true, false, cond, eqb, List, [], length, get_or, set, Option, Some, None, inl, inr, refl, sym, ap, subst, ◌∙◌, arith, option_map, slice_get, string_bytes, eq-eqb, ne_eqb, eqb-true, get_or-map, slice_get_within, slice_get-get_or, Includes, Class, class_at, bases_of, Entry, class_of, classes, keys_of, name_in, AreKeyed, known_in, unknown}
use Rattle.std.proofs.Common.{◌≡◌, ◌<◌, ◌∷◌}

pub key-at : (h : List Entry) (i : ℕ) (e : Entry) → i < length h → e ≡ get_or h i e → get_or (keys_of h) i 0 ≡ e.key
key-at h i e l is = get_or-map (λ (x : Entry). x.key) h i e 0 l ∙ ap (λ (x : Entry). x.key) (sym is)

pub key-held : (h : List Entry) (i : ℕ) → i < length h → Includes (keys_of h) (get_or (keys_of h) i 0)
key-held [] i l = absurd (omega arith)
key-held (e ∷ h) zero l = inl refl
key-held (e ∷ h) (suc i) l = inr (key-held h i (omega arith))

pub held-at : (h : List Entry) (c : ℕ) → Includes (keys_of h) c → (i : ℕ) × (i < length h) × (get_or (keys_of h) i 0 ≡ c)
held-at [] c h = absurd h
held-at (e ∷ h) c (inl i) = (0, omega arith, i)
held-at (e ∷ h) c (inr k) = let r = held-at h c k in let l = r.1 in (suc r.0, omega arith, r.2)

-- the key of a later entry is another one
other-key : (e : Entry) (h : List Entry) (c : ℕ) → AreKeyed (e ∷ h) → Includes (keys_of h) c → e.key ≡ c → ⊥
other-key e h c d k i = d.0 (let P : ℕ → Type 0 = λ x. Includes (keys_of h) x in subst P (sym i) k)

pub bases-at : (h : List Entry) (i : ℕ) (e : Entry) → AreKeyed h → i < length h → e ≡ get_or h i e → bases_of (classes h) e.key ≡ Some e.bases.items
bases-at [] i e d l is = absurd (omega arith)
bases-at (x ∷ h) zero e d l is =
    let same : x.key ≡ e.key = ap (λ (w : Entry). w.key) (sym is) in
    ap (λ b. option_map (λ (k : Class ℕ). k.bases) (cond b (Some (class_of x)) (class_at (classes h) e.key))) (eq-eqb x.key e.key same)
    ∙ ap (λ (w : Entry). Some w.bases.items) (sym is)
bases-at (x ∷ h) (suc i) e d l is =
    let within : i < length h = omega arith in
    let held = let P : ℕ → Type 0 = λ k. Includes (keys_of h) k in subst P (key-at h i e within is) (key-held h i within) in
    ap (λ b. option_map (λ (k : Class ℕ). k.bases) (cond b (Some (class_of x)) (class_at (classes h) e.key))) (ne_eqb x.key e.key (other-key x h e.key d held))
    ∙ bases-at h i e d.1 within is

-- the name at a place
pub name-at : (h : List Entry) (i : ℕ) (e : Entry) → AreKeyed h → i < length h → e ≡ get_or h i e → name_in h (get_or (keys_of h) i 0) ≡ string_bytes e.name
name-at [] i e d l is = absurd (omega arith)
name-at (x ∷ h) zero e d l is =
    ap (λ b. cond b (string_bytes x.name) (name_in h x.key)) (eq-eqb x.key x.key refl) ∙ ap (λ (w : Entry). string_bytes w.name) (sym is)
name-at (x ∷ h) (suc i) e d l is =
    let within : i < length h = omega arith in
    ap (λ b. cond b (string_bytes x.name) (name_in h (get_or (keys_of h) i 0))) (ne_eqb x.key (get_or (keys_of h) i 0) (other-key x h (get_or (keys_of h) i 0) d (key-held h i within)))
    ∙ name-at h i e d.1 within is

pub name-none : (h : List Entry) (c : ℕ) → (Includes (keys_of h) c → ⊥) → name_in h c ≡ []
name-none [] c n = refl
name-none (e ∷ h) c n =
    ap (λ b. cond b (string_bytes e.name) (name_in h c)) (ne_eqb e.key c (λ i. n (inl i))) ∙ name-none h c (λ k. n (inr k))

-- the bases of an entry
pub bases-of_entry : (h : List Entry) (i : ℕ) (e : Entry) → AreKeyed h → slice_get h i ≡ Some e → bases_of (classes h) e.key ≡ Some e.bases.items
bases-of_entry h i e d is =
    let within = slice_get_within h i e is in
    let at = slice_get-get_or h i e within in
    let same : e ≡ get_or h i e = cc (is, at) in
    bases-at h i e d within same

-- a class with bases has an entry
pub bases-held : (h : List Entry) (c : ℕ) (bs : List ℕ) → bases_of (classes h) c ≡ Some bs → Includes (keys_of h) c
bases-held [] c bs e = cc
bases-held (x ∷ h) c bs e = go (eqb x.key c) refl e (bases-held h c bs)
  where
    go : (b : Bool) → eqb x.key c ≡ b → option_map (λ (k : Class ℕ). k.bases) (cond b (Some (class_of x)) (class_at (classes h) c)) ≡ Some bs → (bases_of (classes h) c ≡ Some bs → Includes (keys_of h) c) → Includes (keys_of (x ∷ h)) c
    go true t e more = inl (eqb-true x.key c t)
    go false t e more = inr (more e)

pub known-at : {A : Type 0} (h : List Entry) (os : List (Option A)) (i : ℕ) → AreKeyed h → i < length h → known_in h os (get_or (keys_of h) i 0) ≡ get_or os i None
known-at [] os i d l = absurd (omega arith)
known-at (e ∷ h) [] zero d l = refl
known-at (e ∷ h) [] (suc i) d l = refl
known-at (e ∷ h) (o ∷ os) zero d l = ap (λ b. cond b o (known_in h os e.key)) (eq-eqb e.key e.key refl)
known-at (e ∷ h) (o ∷ os) (suc i) d l =
    let within : i < length h = omega arith in
    ap (λ b. cond b o (known_in h os (get_or (keys_of h) i 0))) (ne_eqb e.key (get_or (keys_of h) i 0) (other-key e h (get_or (keys_of h) i 0) d (key-held h i within)))
    ∙ known-at h os i d.1 within

pub known-none : {A : Type 0} (h : List Entry) (os : List (Option A)) (c : ℕ) → (Includes (keys_of h) c → ⊥) → known_in h os c ≡ None
known-none [] os c n = refl
known-none (e ∷ h) [] c n = refl
known-none (e ∷ h) (o ∷ os) c n =
    ap (λ b. cond b o (known_in h os c)) (ne_eqb e.key c (λ i. n (inl i))) ∙ known-none h os c (λ k. n (inr k))

pub known-set : {A : Type 0} (h : List Entry) (os : List (Option A)) (i : ℕ) (o : Option A) (c : ℕ) → AreKeyed h → length os ≡ length h → i < length h → known_in h (set os i o) c ≡ cond (eqb (get_or (keys_of h) i 0) c) o (known_in h os c)
known-set [] os i o c d n l = absurd (omega arith)
known-set (e ∷ h) [] i o c d n l = absurd (omega arith)
known-set (e ∷ h) (p ∷ os) zero o c d n l = go (eqb e.key c)
  where
    go : (b : Bool) → cond b o (known_in h os c) ≡ cond b o (cond b p (known_in h os c))
    go true = refl
    go false = refl
known-set (e ∷ h) (p ∷ os) (suc i) o c d n l = ap (λ r. cond (eqb e.key c) p r) (known-set h os i o c d.1 (omega arith) within) ∙ go (eqb e.key c) refl (eqb (get_or (keys_of h) i 0) c) refl
  where
    within : i < length h
    within = omega arith

    go : (a : Bool) → eqb e.key c ≡ a → (b : Bool) → eqb (get_or (keys_of h) i 0) c ≡ b → cond a p (cond b o (known_in h os c)) ≡ cond b o (cond a p (known_in h os c))
    go true s true t = absurd (other-key e h (get_or (keys_of h) i 0) d (key-held h i within) (eqb-true e.key c s ∙ sym (eqb-true (get_or (keys_of h) i 0) c t)))
    go true s false t = refl
    go false s true t = refl
    go false s false t = refl

pub unknown-set : {A : Type 0} (os : List (Option A)) (i : ℕ) (x : A) → i < length os → get_or os i None ≡ None → unknown (set os i (Some x)) < unknown os
unknown-set [] i x l e = absurd (omega arith)
unknown-set (None ∷ os) zero x l e = omega arith
unknown-set (Some y ∷ os) zero x l e = cc
unknown-set (None ∷ os) (suc i) x l e = let r = unknown-set os i x (omega arith) e in omega arith
unknown-set (Some y ∷ os) (suc i) x l e = unknown-set os i x (omega arith) e
