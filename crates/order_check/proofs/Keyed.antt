-- Keys that differ, and bases that come earlier.
use Rattle.order_check.proofs.Below.{ℕ, zero, suc, List, [], length, get_or, take, Some, inl, inr, refl, sym, ap, subst, ◌∙◌, arith, slice_get, take_more, slice_get_within, Includes, Distinct, Includes-sides, Entry, keys_of, AreKeyed, IsInOrder, AreAscending, AreBefore, AreEarlierTo}
use Rattle.std.proofs.Common.{◌≡◌, ◌+◌, ◌-◌, ◌<◌, ◌≤◌, ◌∷◌}
use Rattle.order_check.proofs.Paired.{before-or-at}

pub ascend-none : (keys : List ℕ) → AreAscending keys 1
unfolding AreAscending
ascend-none keys j k l m = absurd (omega arith)

pub ascend-more : (keys : List ℕ) (n : ℕ) → AreAscending keys n → 0 < n → get_or keys (n - 1) 0 < get_or keys n 0 → AreAscending keys (n + 1)
unfolding AreAscending
ascend-more keys n a some less j k l m = elim (before-or-at k n (omega arith)) [
  | inl b ↦ a j k l b
  | inr e ↦
      let P : ℕ → Type 0 = λ w. get_or keys j 0 < get_or keys w 0 in
      subst P (sym e) (elim (before-or-at j (n - 1) (omega arith)) [
        | inl b ↦ let c = a j (n - 1) b (omega arith) in omega (arith, c, less)
        | inr s ↦ (let Q : ℕ → Type 0 = λ w. get_or keys w 0 < get_or keys n 0 in subst Q (sym s) less)
      ])
]

held : (xs : List ℕ) (x : ℕ) → Includes xs x → (i : ℕ) × (i < length xs) × (get_or xs i 0 ≡ x)
held [] x h = absurd h
held (y ∷ xs) x (inl e) = (0, omega arith, e)
held (y ∷ xs) x (inr h) = let r = held xs x h in let l = r.1 in (suc r.0, omega arith, r.2)

pub ascend-distinct : (keys : List ℕ) (n : ℕ) → length keys ≡ n → AreAscending keys n → Distinct keys
unfolding AreAscending
ascend-distinct [] n s a = tt
ascend-distinct (x ∷ keys) n s a = (
  λ h. let r = held keys x h in let less = a 0 (suc r.0) (omega arith) (let l = r.1 in omega (arith, l, s)) in let e = r.2 in omega (arith, less, e),
  ascend-distinct keys (length keys) refl (λ j k l m. a (suc j) (suc k) (omega arith) (omega (arith, s))),
)

-- what stands before a place

pub before-none : (keys : List ℕ) (n : ℕ) → AreBefore keys n []
unfolding AreBefore
before-none keys n b h = absurd h

pub before-more : (keys : List ℕ) (n : ℕ) (bs : List ℕ) (i : ℕ) → i < length bs → AreBefore keys n (take i bs) → Includes (take n keys) (get_or bs i 0) → AreBefore keys n (take (i + 1) bs)
unfolding AreBefore
before-more keys n bs i l before here b h =
    let P : List ℕ → Type 0 = λ w. Includes w b in
    elim (Includes-sides (take i bs) (get_or bs i 0 ∷ []) b (subst P (take_more bs i 0 l) h)) [
      | inl k ↦ before b k
      | inr k ↦ elim k [ inl e ↦ (let Q : ℕ → Type 0 = λ w. Includes (take n keys) w in subst Q e here) | inr f ↦ absurd f ]
    ]

pub taken : (keys : List ℕ) (n i : ℕ) (c : ℕ) → i < n → i < length keys → get_or keys i 0 ≡ c → Includes (take n keys) c
taken [] n i c l m e = absurd (omega arith)
taken (k ∷ keys) zero i c l m e = absurd (omega arith)
taken (k ∷ keys) (suc n) zero c l m e = inl e
taken (k ∷ keys) (suc n) (suc i) c l m e = inr (taken keys n i c (omega arith) (omega arith) e)

-- where keys differ, a later one doesn't stand before a place
pub not-taken : (keys : List ℕ) (n i : ℕ) (c : ℕ) → Distinct keys → n ≤ i → i < length keys → get_or keys i 0 ≡ c → Includes (take n keys) c → ⊥
not-taken [] n i c d l m e h = absurd (omega arith)
not-taken (k ∷ keys) zero i c d l m e h = h
not-taken (k ∷ keys) (suc n) zero c d l m e h = absurd (omega arith)
not-taken (k ∷ keys) (suc n) (suc i) c d l m e (inl s) =
    d.0 (let P : ℕ → Type 0 = λ w. Includes keys w in subst P (e ∙ sym s) (at keys i (omega arith)))
  where
    at : (xs : List ℕ) (j : ℕ) → j < length xs → Includes xs (get_or xs j 0)
    at [] j l = absurd (omega arith)
    at (x ∷ xs) zero l = inl refl
    at (x ∷ xs) (suc j) l = inr (at xs j (omega arith))
not-taken (k ∷ keys) (suc n) (suc i) c d l m e (inr h) = not-taken keys n i c d.1 (omega arith) (omega arith) e h

pub taken-held : (n : ℕ) (xs : List ℕ) (b : ℕ) → Includes (take n xs) b → Includes xs b
taken-held zero xs b h = absurd h
taken-held (suc n) [] b h = absurd h
taken-held (suc n) (x ∷ xs) b (inl e) = inl e
taken-held (suc n) (x ∷ xs) b (inr h) = inr (taken-held n xs b h)

pub before-at : (keys : List ℕ) (n : ℕ) (bs : List ℕ) (i : ℕ) → i < length bs → AreBefore keys n bs → Includes (take n keys) (get_or bs i 0)
unfolding AreBefore
before-at keys n bs i l before = before (get_or bs i 0) (at bs i l)
  where
    at : (xs : List ℕ) (j : ℕ) → j < length xs → Includes xs (get_or xs j 0)
    at [] j l = absurd (omega arith)
    at (x ∷ xs) zero l = inl refl
    at (x ∷ xs) (suc j) l = inr (at xs j (omega arith))

-- entries, one after the other

pub earlier-none : (h : List Entry) → AreEarlierTo h 0
unfolding AreEarlierTo
earlier-none h k e l s = absurd (omega arith)

pub earlier-more : (h : List Entry) (n : ℕ) (e : Entry) → AreEarlierTo h n → slice_get h n ≡ Some e → AreBefore (keys_of h) n e.bases.items → AreEarlierTo h (n + 1)
unfolding AreEarlierTo
earlier-more h n e before at here k d l s = elim (before-or-at k n (omega arith)) [
  | inl a ↦ before k d a s
  | inr i ↦
      let same : e ≡ d = let p = ap (slice_get h) i in cc in
      let P : Entry → Type 0 = λ w. AreBefore (keys_of h) n w.bases.items in
      let Q : ℕ → Type 0 = λ w. AreBefore (keys_of h) w d.bases.items in
      subst Q (sym i) (subst P same here)
]

pub earlier-at : (h : List Entry) (n m : ℕ) (e : Entry) → AreEarlierTo h m → n < m → slice_get h n ≡ Some e → AreBefore (keys_of h) n e.bases.items
unfolding AreEarlierTo
earlier-at h n m e earlier l s = earlier n e l s

pub in-order : (h : List Entry) → AreKeyed h → AreEarlierTo h (length h) → IsInOrder h
unfolding AreEarlierTo AreBefore
in-order h keyed earlier = record { keyed = keyed; earlier = λ k e b s i. earlier k e (slice_get_within h k e s) s b i }

pub order-earlier : (h : List Entry) → IsInOrder h → AreEarlierTo h (length h)
unfolding AreEarlierTo AreBefore
order-earlier h o k e l s b i = o.earlier k e b s i

pub ascend-less : (keys : List ℕ) (n m : ℕ) → AreAscending keys n → m ≤ n → AreAscending keys m
unfolding AreAscending
ascend-less keys n m a le j k l b = a j k l (omega arith)

pub before-all : (keys : List ℕ) (n : ℕ) (bs : List ℕ) → AreBefore keys n (take (length bs) bs) → AreBefore keys n bs
before-all keys n bs a = let P : List ℕ → Type 0 = λ w. AreBefore keys n w in subst P (whole bs) a
  where
    whole : (xs : List ℕ) → take (length xs) xs ≡ xs
    whole [] = refl
    whole (x ∷ xs) = ap (λ w. x ∷ w) (whole xs)
