-- Entries of dicts and lists of keys, by places.
use Rattle.class_world.proofs.Below.{ℕ, zero, suc, Bool, true, false, cond, List, [], length, get_or, map, Option, Some, None, refl, sym, ap, ◌∙◌, subst, arith, slice_get, is_some, option_map, position, All, remove, position_from, position_from-zero, PyObjectRef, value_of, Entries, with_value_for, without_value_for, Key, AreKeys, put_at}
use Rattle.std.proofs.Common.{◌≡◌, ◌+◌, ◌<◌, ◌∷◌, ◌++◌}

-- the first key that passes, where the entries start at a place
pub record IsFirstFrom (test : PyObjectRef → Bool) (k n : ℕ) (es : Entries) : Type 0 where
  pub place : ℕ
  pub is : n ≡ k + place
  pub below : place < length es
  pub value : value_of test es ≡ option_map (λ e. e.1) (slice_get es place)
  pub put : (v : PyObjectRef) → with_value_for test v es ≡ put_at es place v
  pub taken : without_value_for test es ≡ remove es place

-- no key passes
pub record NonePasses (test : PyObjectRef → Bool) (es : Entries) : Type 0 where
  pub value : value_of test es ≡ None
  pub taken : without_value_for test es ≡ es
  pub fails : (i : ℕ) (r : PyObjectRef) → slice_get (map (λ e. e.0) es) i ≡ Some r → test r ≡ false

module _ (test : PyObjectRef → Bool) where
  abbrev passes : PyObjectRef × PyObjectRef → Bool
  passes e = test e.0

  first-from : (k n : ℕ) (es : Entries) → position_from passes k es ≡ Some n → IsFirstFrom test k n es
  first-from k n [] q = cc
  first-from k n (e ∷ es) q = pick (first-from (k + 1) n es) (test e.0) refl q
    where
      pick : (position_from passes (k + 1) es ≡ Some n → IsFirstFrom test (k + 1) n es) → (b : Bool) → test e.0 ≡ b → cond b (Some k) (position_from passes (k + 1) es) ≡ Some n → IsFirstFrom test k n (e ∷ es)
      pick more true h q =
          let same : k ≡ n = cc in
          record {
            place = 0;
            is = omega arith;
            below = omega arith;
            value = ap (λ b. cond b (Some e.1) (value_of test es)) h;
            put = λ v. ap (λ b. cond b ((e.0, v) ∷ es) (e ∷ with_value_for test v es)) h;
            taken = ap (λ b. cond b es (e ∷ without_value_for test es)) h;
          }
      pick more false h q =
          let rest = more q in
          let i = rest.is in
          let l = rest.below in
          record {
            place = suc rest.place;
            is = omega arith;
            below = omega arith;
            value = ap (λ b. cond b (Some e.1) (value_of test es)) h ∙ rest.value;
            put = λ v. ap (λ b. cond b ((e.0, v) ∷ es) (e ∷ with_value_for test v es)) h ∙ ap (λ xs. e ∷ xs) (rest.put v);
            taken = ap (λ b. cond b es (e ∷ without_value_for test es)) h ∙ ap (λ xs. e ∷ xs) rest.taken;
          }

  none-from : (k : ℕ) (es : Entries) → position_from passes k es ≡ None → NonePasses test es
  none-from k [] q = record { value = refl; taken = refl; fails = λ i r e. cc }
  none-from k (e ∷ es) q = pick (none-from (k + 1) es) (test e.0) refl q
    where
      fails : (h : test e.0 ≡ false) (rest : NonePasses test es) (i : ℕ) (r : PyObjectRef) → slice_get (map (λ e. e.0) (e ∷ es)) i ≡ Some r → test r ≡ false
      fails h rest zero r q = let same : e.0 ≡ r = cc in subst (λ r. test r ≡ false) same h
      fails h rest (suc i) r q = rest.fails i r q

      pick : (position_from passes (k + 1) es ≡ None → NonePasses test es) → (b : Bool) → test e.0 ≡ b → cond b (Some k) (position_from passes (k + 1) es) ≡ None → NonePasses test (e ∷ es)
      pick more true h q = cc
      pick more false h q =
          let rest = more q in
          record {
            value = ap (λ b. cond b (Some e.1) (value_of test es)) h ∙ rest.value;
            taken = ap (λ b. cond b es (e ∷ without_value_for test es)) h ∙ ap (λ xs. e ∷ xs) rest.taken;
            fails = fails h rest;
          }

  pub first-key : (n : ℕ) (es : Entries) → Some n ≡ position passes es → IsFirstFrom test 0 n es
  first-key n es q = first-from 0 n es (sym (position_from-zero passes es) ∙ sym q)

  pub no-key : (es : Entries) → None ≡ position passes es → NonePasses test es
  no-key es q = none-from 0 es (sym (position_from-zero passes es) ∙ sym q)

-- an element by its place
pub get-below : {A : Type 0} (xs : List A) (i : ℕ) (d : A) → i < length xs → slice_get xs i ≡ Some (get_or xs i d)
get-below [] i d l = absurd (omega arith)
get-below (x ∷ xs) zero d l = refl
get-below (x ∷ xs) (suc i) d l = get-below xs i d (omega arith)

pub map-remove : {A B : Type 0} (f : A → B) (xs : List A) (n : ℕ) → map f (remove xs n) ≡ remove (map f xs) n
map-remove f [] zero = refl
map-remove f [] (suc n) = refl
map-remove f (x ∷ xs) zero = refl
map-remove f (x ∷ xs) (suc n) = ap (λ ys. f x ∷ ys) (map-remove f xs n)

pub keys-put : (es : Entries) (n : ℕ) (v : PyObjectRef) → map (λ e. e.0) (put_at es n v) ≡ map (λ e. e.0) es
keys-put [] zero v = refl
keys-put [] (suc n) v = refl
keys-put (e ∷ es) zero v = refl
keys-put (e ∷ es) (suc n) v = ap (λ rs. e.0 ∷ rs) (keys-put es n v)

pub map-end : {A B : Type 0} (f : A → B) (xs : List A) (x : A) → map f (xs ++ x ∷ []) ≡ map f xs ++ f x ∷ []
map-end f [] x = refl
map-end f (y ∷ xs) x = ap (λ ys. f y ∷ ys) (map-end f xs x)

-- what is so of each element
module _ {A : Type 0} (P : A → Type 0) where
  all-cons : (x : A) (xs : List A) → P x → All P xs → All P (x ∷ xs)
  all-cons x xs p h = go
    where
      go : (i : ℕ) (d : A) → i < length (x ∷ xs) → P (get_or (x ∷ xs) i d)
      go zero d l = p
      go (suc i) d l = h i d (omega arith)

  all-tail : (x : A) (xs : List A) → All P (x ∷ xs) → All P xs
  all-tail x xs h = λ i d l. h (suc i) d (omega arith)

  all-empty : All P []
  all-empty = λ i d l. absurd (omega arith)

  pub all-removed : (xs : List A) (n : ℕ) → All P xs → All P (remove xs n)
  all-removed [] zero h = h
  all-removed [] (suc n) h = h
  all-removed (x ∷ xs) zero h = all-tail x xs h
  all-removed (x ∷ xs) (suc n) h = all-cons x _ (h 0 x (omega arith)) (all-removed xs n (all-tail x xs h))

  pub all-pushed : (xs : List A) (x : A) → All P xs → P x → All P (xs ++ x ∷ [])
  all-pushed [] x h p = all-cons x [] p all-empty
  all-pushed (y ∷ xs) x h p = all-cons y _ (h 0 y (omega arith)) (all-pushed xs x (all-tail y xs h) p)

pub all-put : (P : PyObjectRef → Type 0) (es : Entries) (n : ℕ) (v : PyObjectRef) → All P (map (λ e. e.1) es) → P v → All P (map (λ e. e.1) (put_at es n v))
all-put P [] zero v h p = h
all-put P [] (suc n) v h p = h
all-put P (e ∷ es) zero v h p = all-cons P v _ p (all-tail P e.1 _ h)
all-put P (e ∷ es) (suc n) v h p = all-cons P e.1 _ (h 0 e.1 (omega arith)) (all-put P es n v (all-tail P e.1 _ h) p)

-- keys of which no two are alike
module _ (at : PyObjectRef → Option Key) where
  -- a key unlike the others
  abbrev Unlike : PyObjectRef → List PyObjectRef → Type 0
  Unlike r rs = (i : ℕ) (s : PyObjectRef) → slice_get rs i ≡ Some s → at r ≡ at s → ⊥

  keys-cons : (r : PyObjectRef) (rs : List PyObjectRef) → is_some (at r) ≡ true → Unlike r rs → AreKeys at rs → AreKeys at (r ∷ rs)
  keys-cons r rs k u h = record { known = known; apart = apart }
    where
      known : (i : ℕ) (s : PyObjectRef) → slice_get (r ∷ rs) i ≡ Some s → is_some (at s) ≡ true
      known zero s e = let same : r ≡ s = cc in subst (λ s. is_some (at s) ≡ true) same k
      known (suc i) s e = h.known i s e

      apart : (i j : ℕ) (s t : PyObjectRef) → slice_get (r ∷ rs) i ≡ Some s → slice_get (r ∷ rs) j ≡ Some t → at s ≡ at t → i ≡ j
      apart zero zero s t e f q = refl
      apart zero (suc j) s t e f q = let same : r ≡ s = cc in absurd (u j t f (ap at same ∙ q))
      apart (suc i) zero s t e f q = let same : r ≡ t = cc in absurd (u i s e (ap at same ∙ sym q))
      apart (suc i) (suc j) s t e f q = ap suc (h.apart i j s t e f q)

  keys-tail : (r : PyObjectRef) (rs : List PyObjectRef) → AreKeys at (r ∷ rs) → AreKeys at rs
  keys-tail r rs h = record {
    known = λ i s e. h.known (suc i) s e;
    apart = λ i j s t e f q. let next = h.apart (suc i) (suc j) s t e f q in omega arith;
  }

  keys-head : (r : PyObjectRef) (rs : List PyObjectRef) → AreKeys at (r ∷ rs) → Unlike r rs
  keys-head r rs h = λ i s e q. let same = h.apart 0 (suc i) r s refl e q in absurd (omega arith)

  removed-in : (rs : List PyObjectRef) (n i : ℕ) (s : PyObjectRef) → slice_get (remove rs n) i ≡ Some s → (j : ℕ) × (slice_get rs j ≡ Some s)
  removed-in [] zero i s e = cc
  removed-in [] (suc n) i s e = cc
  removed-in (r ∷ rs) zero i s e = (suc i, e)
  removed-in (r ∷ rs) (suc n) zero s e = (0, e)
  removed-in (r ∷ rs) (suc n) (suc i) s e = let k = removed-in rs n i s e in (suc k.0, k.1)

  pub keys-removed : (rs : List PyObjectRef) (n : ℕ) → AreKeys at rs → AreKeys at (remove rs n)
  keys-removed [] zero h = h
  keys-removed [] (suc n) h = h
  keys-removed (r ∷ rs) zero h = keys-tail r rs h
  keys-removed (r ∷ rs) (suc n) h =
      keys-cons r _ (h.known 0 r refl) (λ i s e q. let k = removed-in rs n i s e in keys-head r rs h k.0 s k.1 q) (keys-removed rs n (keys-tail r rs h))

  pub keys-pushed : (rs : List PyObjectRef) (r : PyObjectRef) → AreKeys at rs → is_some (at r) ≡ true → Unlike r rs → AreKeys at (rs ++ r ∷ [])
  keys-pushed [] r h k u = keys-cons r [] k (λ i s e q. cc) h
  keys-pushed (s ∷ rs) r h k u =
      keys-cons s _ (h.known 0 s refl) (λ i t e q. unlike rs i t (keys-head s rs h) e q) (keys-pushed rs r (keys-tail s rs h) k (λ i t e q. u (suc i) t e q))
    where
      unlike : (rs : List PyObjectRef) (i : ℕ) (t : PyObjectRef) → Unlike s rs → slice_get (rs ++ r ∷ []) i ≡ Some t → at s ≡ at t → ⊥
      unlike [] zero t o e q = let same : r ≡ t = cc in u 0 s refl (ap at same ∙ sym q)
      unlike [] (suc i) t o e q = cc
      unlike (x ∷ rs) zero t o e q = o 0 t e q
      unlike (x ∷ rs) (suc i) t o e q = unlike rs i t (λ j y f p. o (suc j) y f p) e q
