-- A hierarchy and a table that have the same classes.
use Rattle.order_check.proofs.Below.{ℕ, zero, suc, Bool, true, false, cond, eqb, List, [], length, take, map, Option, Some, None, inl, inr, refl, sym, ap, subst, ◌∙◌, arith, leb, option_map, slice_get, leb-true, and_parts, Text, Includes, Distinct, linear, Class, Classes, class_at, bases_of, lin, numbers_of, ascend_from, linear-same, at-here, at-past, at-number, no-less, Entry, class_of, classes, keys_of, order_in, all_orders, AreKeyed, Shown, class_shown}
use Rattle.std.proofs.Common.{◌≡◌, ◌+◌, ◌≤◌, ◌∷◌, ◌++◌}
use Rattle.order_check.specs.ClassOrders.Shown.{shown}

not-less : (n : ℕ) (xs : List ℕ) (x : ℕ) → ascend_from n xs ≡ true → Includes xs x → n ≤ x
not-less n [] x e i = absurd i
not-less n (y ∷ xs) x e (inl s) =
    let l = leb-true n y (and_parts (leb n y) (ascend_from (suc y) xs) e).0 in
    omega (arith, l, s)
not-less n (y ∷ xs) x e (inr i) =
    let q = and_parts (leb n y) (ascend_from (suc y) xs) e in
    let l = leb-true n y q.0 in
    let m = not-less (suc y) xs x q.1 i in
    omega (arith, l, m)

ascend-distinct : (n : ℕ) (xs : List ℕ) → ascend_from n xs ≡ true → Distinct xs
ascend-distinct n [] e = tt
ascend-distinct n (x ∷ xs) e =
    let q = and_parts (leb n x) (ascend_from (suc x) xs) e in
    (λ i. let m = not-less (suc x) xs x q.1 i in omega (arith, m), ascend-distinct (suc x) xs q.1)

module _ {K : Type 0} where
  key-same : (h : List Entry) (t : Classes K) → map shown h ≡ map class_shown t → keys_of h ≡ numbers_of t
  key-same [] [] e = refl
  key-same [] (k ∷ t) e = cc
  key-same (x ∷ h) [] e = cc
  key-same (x ∷ h) (k ∷ t) e =
      let one : shown x ≡ class_shown k = cc in
      let rest : map shown h ≡ map class_shown t = cc in
      let first : x.key ≡ k.number = ap (λ (s : Shown). s.0) one in
      ap (λ n. n ∷ keys_of h) first ∙ ap (λ ns. k.number ∷ ns) (key-same h t rest)

  length-same : (h : List Entry) (t : Classes K) → map shown h ≡ map class_shown t → length (classes h) ≡ length t
  length-same [] [] e = refl
  length-same [] (k ∷ t) e = cc
  length-same (x ∷ h) [] e = cc
  length-same (x ∷ h) (k ∷ t) e =
      let rest : map shown h ≡ map class_shown t = cc in
      ap suc (length-same h t rest)

  bases-same : (h : List Entry) (t : Classes K) → map shown h ≡ map class_shown t → (c : ℕ) → bases_of (classes h) c ≡ bases_of t c
  bases-same [] [] e c = refl
  bases-same [] (k ∷ t) e c = cc
  bases-same (x ∷ h) [] e c = cc
  bases-same (x ∷ h) (k ∷ t) e c =
      let one : shown x ≡ class_shown k = cc in
      let rest : map shown h ≡ map class_shown t = cc in
      let first : x.key ≡ k.number = ap (λ (s : Shown). s.0) one in
      let bases : x.bases.items ≡ k.bases = ap (λ (s : Shown). s.2) one in
      ap (λ n. option_map (λ (j : Class ℕ). j.bases) (cond (eqb n c) (Some (class_of x)) (class_at (classes h) c))) first
      ∙ go k.number bases (bases-same h t rest c) (eqb k.number c)
    where
      go : (n : ℕ) → x.bases.items ≡ k.bases → bases_of (classes h) c ≡ bases_of t c → (b : Bool) → option_map (λ (j : Class ℕ). j.bases) (cond b (Some (class_of x)) (class_at (classes h) c)) ≡ option_map (λ (j : Class K). j.bases) (cond b (Some k) (class_at t c))
      go n bases later true = ap Some bases
      go n bases later false = later

  pub order-same : (h : List Entry) (t : Classes K) → map shown h ≡ map class_shown t → (c : ℕ) → order_in h c ≡ lin t c
  order-same h t e c =
      linear-same (bases_of (classes h)) (bases_of t) (bases-same h t e) (length (classes h)) c
      ∙ ap (λ n. linear (bases_of t) n c) (length-same h t e)

  orders-of : (f g : ℕ → Option (List ℕ)) → ((c : ℕ) → f c ≡ g c) → (h : List Entry) (t : Classes K) → map shown h ≡ map class_shown t → map (λ (x : Entry). f x.key) h ≡ map (λ (k : Class K). g k.number) t
  orders-of f g same [] [] e = refl
  orders-of f g same [] (k ∷ t) e = cc
  orders-of f g same (x ∷ h) [] e = cc
  orders-of f g same (x ∷ h) (k ∷ t) e =
      let one : shown x ≡ class_shown k = cc in
      let rest : map shown h ≡ map class_shown t = cc in
      let first : x.key ≡ k.number = ap (λ (s : Shown). s.0) one in
      let here : f x.key ≡ g k.number = same x.key ∙ ap g first in
      ap (λ o. o ∷ map (λ (y : Entry). f y.key) h) here ∙ ap (λ os. g k.number ∷ os) (orders-of f g same h t rest)

  pub all-same : (h : List Entry) (t : Classes K) → map shown h ≡ map class_shown t → all_orders h ≡ map (λ (k : Class K). lin t k.number) t
  all-same h t e = orders-of (order_in h) (lin t) (order-same h t e) h t e

  pub keyed-same : (h : List Entry) (t : Classes K) → map shown h ≡ map class_shown t → ascend_from 0 (numbers_of t) ≡ true → AreKeyed h
  keyed-same h t e up = subst Distinct (sym (key-same h t e)) (ascend-distinct 0 (numbers_of t) up)

  -- the class at a place is found by its number
  placed : (n : ℕ) (t : Classes K) → ascend_from n (numbers_of t) ≡ true → (i c : ℕ) → slice_get (numbers_of t) i ≡ Some c → (k : Class K) × (slice_get t i ≡ Some k) × (class_at t c ≡ Some k)
  placed n [] up i c e = cc
  placed n (j ∷ t) up zero c e =
      let same : j.number ≡ c = cc in
      (j, refl, at-here j t c same)
  placed n (j ∷ t) up (suc i) c e =
      let q = and_parts (leb n j.number) (ascend_from (suc j.number) (numbers_of t)) up in
      let r = placed (suc j.number) t q.1 i c e in
      let low = numbered t i c e r.0 r.1 in
      let above = no-less (suc j.number) t i r.0 q.1 r.1 in
      (r.0, r.1, at-past j t c (λ same. omega (arith, same, low, above)) ∙ r.2)
    where
      numbered : (t : Classes K) (i c : ℕ) → slice_get (numbers_of t) i ≡ Some c → (k : Class K) → slice_get t i ≡ Some k → k.number ≡ c
      numbered [] i c e k f = cc
      numbered (x ∷ t) zero c e k f =
          let s : x ≡ k = cc in
          let m : x.number ≡ c = cc in
          ap (λ (y : Class K). y.number) (sym s) ∙ m
      numbered (x ∷ t) (suc i) c e k f = numbered t i c e k f

  take-one : (t : Classes K) (i : ℕ) (k : Class K) → slice_get t i ≡ Some k → take (suc i) (map class_shown t) ≡ take i (map class_shown t) ++ class_shown k ∷ []
  take-one [] i k e = cc
  take-one (x ∷ t) zero k e = let s : x ≡ k = cc in ap (λ (y : Class K). class_shown y ∷ []) s
  take-one (x ∷ t) (suc i) k e = ap (λ ss. class_shown x ∷ ss) (take-one t i k e)

  -- a class more is put down
  pub one-more : (t : Classes K) (es : List Entry) (i c : ℕ) (e : Entry) → ascend_from 0 (numbers_of t) ≡ true → slice_get (numbers_of t) i ≡ Some c → option_map class_shown (class_at t c) ≡ Some (shown e)
      → map shown es ≡ take i (map class_shown t) → map shown es ++ shown e ∷ [] ≡ take (i + 1) (map class_shown t)
  one-more t es i c e up at is before =
      let r = placed 0 t up i c at in
      let same : class_shown r.0 ≡ shown e = let found = ap (option_map class_shown) r.2 in cc in
      let next : suc i ≡ i + 1 = omega arith in
      ap (λ ss. ss ++ shown e ∷ []) before ∙ ap (λ s. take i (map class_shown t) ++ s ∷ []) (sym same) ∙ sym (take-one t i r.0 r.1)
      ∙ ap (λ n. take n (map class_shown t)) next

  -- what is told of a class by its number
  pub shown-at : (t : Classes K) (c : ℕ) (name : Text) (bases : List ℕ) → option_map (λ k. k.name) (class_at t c) ≡ Some name → bases_of t c ≡ Some bases → option_map class_shown (class_at t c) ≡ Some (c, name, bases)
  shown-at t c name bases e f = go (class_at t c) refl e f
    where
      go : (o : Option (Class K)) → class_at t c ≡ o → option_map (λ (k : Class K). k.name) o ≡ Some name → option_map (λ (k : Class K). k.bases) o ≡ Some bases → option_map class_shown o ≡ Some (c, name, bases)
      go None p e f = cc
      go (Some k) p e f =
          let n = at-number t c k p in
          let m : k.name ≡ name = cc in
          let b : k.bases ≡ bases = cc in
          ap (λ x. Some (x, k.name, k.bases)) n ∙ ap (λ x. Some (c, x, k.bases)) m ∙ ap (λ x. Some (c, name, x)) b

pub taken : {A : Type 0} (xs : List A) (n : ℕ) → length xs ≤ n → take n xs ≡ xs
taken [] zero l = refl
taken [] (suc n) l = refl
taken (x ∷ xs) zero l = absurd (omega arith)
taken (x ∷ xs) (suc n) l = ap (λ ys. x ∷ ys) (taken xs n (omega arith))
