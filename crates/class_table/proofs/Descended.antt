-- The class and all that derive from it are found.
use Rattle.class_table.proofs.Below.{ℕ, zero, suc, Bool, true, false, cond, eqb, List, [], map, filter, length, get_or, take, Option, Some, None, inl, inr, refl, sym, ap, subst, ◌∙◌, arith, slice_get, option_map, is_some, unwrap_or, sum_by, list_any, AllByRecursion, IsDistinct, IsPermutation, false≢true, cases_eq, eq-eqb, ne_eqb, length-map, map_more, IsPermutation-sym, Contains-permutation, sum_by-IsPermutation, slice_get_within, slice_get-get_or, get_or_from_slice_get, slice_get-map, sum_by-cons, insert_key, PyStrInterned, PyTypeRef, has, Includes, Distinct, all_some, Class, Classes, class_at, is_class, bases_of, lin, is_sub, is_along, subclasses, numbers_of, is_ascending, Includes-equal, Includes-left, Includes-right, Includes-sides, Includes-filter, from_flat_map, distinct-fewer, Decides-has, all_some-holds, all_some-some, at-held, lin-least, lin-held, lin-inside, lin-bases, lin-within, numbers, StoredClass, class_of, number_at, classes_of, IsCoherent, descendants, Descends, AreDescendants, AreFollowed, AreMeasured, AreRanked, Ranked, line_length, line_places}
use Rattle.std.proofs.Common.{◌≡◌, ◌+◌, ◌<◌, ◌≤◌, ◌⊎◌, ◌||◌, ◌∷◌, ◌++◌}
use Rattle.class_table.specs.Descendants.{AreAdded}
use Rattle.class_table.proofs.Found.{number-get, ascends, place-class, class-here}
use Rattle.class_table.proofs.Places.{get-push_cases}
use Rattle.class_table.proofs.Trials.{shorter}
use Rattle.class_table.proofs.Settles.{distinct-places}

-- one place more, where it is not there yet
abbrev pub with_place : List ℕ → ℕ → List ℕ
with_place ps p = cond (has ps p) ps (ps ++ p ∷ [])

turned : (a b : ℕ) → eqb a b ≡ eqb b a
turned a b = elim (cases_eq a b) [ inl e ↦ eq-eqb a b e ∙ sym (eq-eqb b a (sym e)) | inr n ↦ ne_eqb a b n ∙ sym (ne_eqb b a (λ e. n (sym e))) ]

pub any-has : (ks : List ℕ) (k : ℕ) → list_any (eqb k) ks ≡ has ks k
any-has [] k = refl
any-has (x ∷ ks) k = ap (λ b. b || list_any (eqb k) ks) (turned k x) ∙ ap (λ b. eqb x k || b) (any-has ks k)

pub insert_key-place : (ks : List ℕ) (k : ℕ) → insert_key eqb ks k ≡ with_place ks k
insert_key-place ks k = ap (λ b. cond b ks (ks ++ k ∷ [])) (any-has ks k)

none-in : (x : ℕ) (xs : List ℕ) → AllByRecursion (λ y. eqb x y ≡ false) xs → Includes xs x → ⊥
none-in x [] h k = k
none-in x (y ∷ xs) h (inl e) = false≢true (sym h.0 ∙ eq-eqb x y (sym e))
none-in x (y ∷ xs) h (inr k) = none-in x xs h.1 k

pub distinct-keys : (ks : List ℕ) → IsDistinct eqb ks → Distinct ks
unfolding IsDistinct
distinct-keys [] h = tt
distinct-keys (x ∷ ks) h = (none-in x ks h.0, distinct-keys ks h.1)

-- elements and their places
pub Includes-at : {A : Type 0} (xs : List A) (i : ℕ) (x : A) → slice_get xs i ≡ Some x → Includes xs x
Includes-at [] i x e = cc
Includes-at (y ∷ xs) zero x e = inl cc
Includes-at (y ∷ xs) (suc i) x e = inr (Includes-at xs i x e)

pub Includes-index : {A : Type 0} (xs : List A) (x : A) → Includes xs x → (i : ℕ) × (slice_get xs i ≡ Some x)
Includes-index [] x h = absurd h
Includes-index (y ∷ xs) x (inl e) = (0, ap Some e)
Includes-index (y ∷ xs) x (inr h) = let r = Includes-index xs x h in (suc r.0, r.1)

push-stays : {A : Type 0} (xs ys : List A) (j : ℕ) (x : A) → slice_get xs j ≡ Some x → slice_get (xs ++ ys) j ≡ Some x
push-stays [] ys j x e = cc
push-stays (y ∷ xs) ys zero x e = e
push-stays (y ∷ xs) ys (suc j) x e = push-stays xs ys j x e

place-stays : (ps : List ℕ) (p j i : ℕ) → slice_get ps j ≡ Some i → slice_get (with_place ps p) j ≡ Some i
place-stays ps p j i e =
    elim (has ps p) as (λ b. slice_get (cond b ps (ps ++ p ∷ [])) j ≡ Some i) [ true ↦ e | false ↦ push-stays ps (p ∷ []) j i e ]

place-only : (ps : List ℕ) (p i : ℕ) → Includes (with_place ps p) i → Includes ps i ⊎ (p ≡ i)
place-only ps p i h = go (has ps p) h
  where
    go : (b : Bool) → Includes (cond b ps (ps ++ p ∷ [])) i → Includes ps i ⊎ (p ≡ i)
    go true h = inl h
    go false h = elim (Includes-sides ps (p ∷ []) i h) [ inl a ↦ inl a | inr b ↦ elim b [ inl e ↦ inr e | inr n ↦ absurd n ] ]

place-keeps : (ps : List ℕ) (p i : ℕ) → Includes ps i → Includes (with_place ps p) i
place-keeps ps p i h =
    elim (has ps p) as (λ b. Includes (cond b ps (ps ++ p ∷ [])) i) [ true ↦ h | false ↦ Includes-left ps (p ∷ []) i h ]

pub place-in : (ps : List ℕ) (p : ℕ) → Includes (with_place ps p) p
place-in ps p = go (has ps p) refl
  where
    go : (b : Bool) → has ps p ≡ b → Includes (cond b ps (ps ++ p ∷ [])) p
    go true e = (Decides-has ps p).0 e
    go false e = Includes-right ps (p ∷ []) p (inl refl)

pub some-in : {A : Type 0} (xs : List A) (i : ℕ) → i < length xs → (x : A) × (slice_get xs i ≡ Some x)
some-in [] i l = absurd (omega arith)
some-in (x ∷ xs) zero l = (x, refl)
some-in (x ∷ xs) (suc i) l = some-in xs i (omega arith)

from-map : (f : ℕ → ℕ) (xs : List ℕ) (y : ℕ) → Includes (map f xs) y → (x : ℕ) × Includes xs x × (f x ≡ y)
from-map f [] y h = absurd h
from-map f (x ∷ xs) y (inl e) = (x, inl refl, e)
from-map f (x ∷ xs) y (inr h) = let r = from-map f xs y h in (r.0, inr r.1, r.2)

distinct-map : (f : ℕ → ℕ) (xs : List ℕ) → Distinct xs → ((x y : ℕ) → Includes xs x → Includes xs y → f x ≡ f y → x ≡ y) → Distinct (map f xs)
distinct-map f [] d h = tt
distinct-map f (x ∷ xs) d h = (
  λ k. let r = from-map f xs (f x) k in d.0 (Includes-equal xs r.0 x (h r.0 x (inr r.1) (inl refl) r.2) r.1),
  distinct-map f xs d.1 (λ a b p q. h a b (inr p) (inr q)),
)

filter-fewer : (p : ℕ → Bool) (xs : List ℕ) → length (filter p xs) ≤ length xs
filter-fewer p [] = omega arith
filter-fewer p (x ∷ xs) = go (p x) (filter-fewer p xs)
  where
    go : (b : Bool) → length (filter p xs) ≤ length xs → length (cond b (x ∷ filter p xs) (filter p xs)) ≤ suc (length xs)
    go true h = omega (arith, h)
    go false h = omega (arith, h)

pub none-past : {A : Type 0} (xs : List A) (i : ℕ) → None ≡ slice_get xs i → length xs ≤ i
none-past [] i e = omega arith
none-past (x ∷ xs) zero e = cc
none-past (x ∷ xs) (suc i) e = let r = none-past xs i e in omega (arith, r)

pub Includes-in : {A : Type 0} (xs : List A) (i : ℕ) (d : A) → i < length xs → Includes xs (get_or xs i d)
Includes-in xs i d l = Includes-at xs i (get_or xs i d) (slice_get-get_or xs i d l)

-- a class is kept at one place
pub one-place : (kept : List StoredClass) → is_ascending (classes_of kept) ≡ true → (i j : ℕ) (a b : StoredClass) → slice_get kept i ≡ Some a → slice_get kept j ≡ Some b → a.number ≡ b.number → i ≡ j
one-place kept up i j a b e f n =
    let l : i < j → a.number < b.number = λ l. ascends kept up i j a b l e f in
    let m : j < i → b.number < a.number = λ l. ascends kept up j i b a l f e in
    grind (arith, l, m, n)

same-place : (kept : List StoredClass) → is_ascending (classes_of kept) ≡ true → (i j c : ℕ) → number_at kept i ≡ Some c → number_at kept j ≡ Some c → i ≡ j
same-place kept up i j c e f =
    let a = number-get kept i c e in
    let b = number-get kept j c f in
    one-place kept up i j a.0 b.0 a.1 b.1 (a.2 ∙ sym b.2)

module _ (kept : List StoredClass) (up : is_ascending (classes_of kept) ≡ true) where
  -- no class added
  pub added-none : (ps : List ℕ) → AreAdded kept [] ps ps
  added-none ps = record { stay = λ j i e. e; only = λ i h. inl h; all = λ i n h e. absurd h }

  -- and one more
  pub added-more : (ns : List ℕ) (n p : ℕ) (old cur : List ℕ) → AreAdded kept ns old cur → number_at kept p ≡ Some n → AreAdded kept (ns ++ n ∷ []) old (with_place cur p)
  added-more ns n p old cur a e = record {
    stay = λ j i h. place-stays cur p j i (a.stay j i h);
    only = λ i h. elim (place-only cur p i h) [
      | inl q ↦ elim (a.only i q) [
        | inl r ↦ inl r
        | inr r ↦ inr (r.0, Includes-left ns (n ∷ []) r.0 r.1, r.2)
      ]
      | inr q ↦ inr (n, Includes-right ns (n ∷ []) n (inl refl), ap (number_at kept) (sym q) ∙ e)
    ];
    all = λ i m h f. elim (Includes-sides ns (n ∷ []) m h) [
      | inl q ↦ place-keeps cur p i (a.all i m q f)
      | inr q ↦ elim q [
        | inl r ↦ Includes-equal (with_place cur p) p i (same-place kept up p i n e (f ∙ ap Some (sym r))) (place-in cur p)
        | inr r ↦ absurd r
      ]
    ];
  }

  pub added-next : (some : List PyTypeRef) (i p : ℕ) (d : PyTypeRef) (old cur new : List ℕ) → i < length some → AreAdded kept (numbers (take i some)) old cur → number_at kept p ≡ Some (get_or some i d).0 → new ≡ with_place cur p → AreAdded kept (numbers (take (i + 1) some)) old new
  added-next some i p d old cur new l a e is =
      let P : List ℕ → Type 0 = λ ns. AreAdded kept ns old (with_place cur p) in
      let Q : List ℕ → Type 0 = λ xs. AreAdded kept (numbers (take (i + 1) some)) old xs in
      subst Q (sym is) (subst P (sym (map_more (λ (k : PyTypeRef). k.0) some i d l)) (added-more (numbers (take i some)) (get_or some i d).0 p old cur a e))

-- the direct subclasses
cons-either : (b : Bool) (x y : ℕ) (ys : List ℕ) → Includes (cond b (x ∷ ys) ys) y → ((b ≡ true) × (x ≡ y)) ⊎ Includes ys y
cons-either true x y ys (inl e) = inl (refl, e)
cons-either true x y ys (inr h) = inr h
cons-either false x y ys h = inr h

cons-keeps : (b : Bool) (x y : ℕ) (ys : List ℕ) → Includes ys y → Includes (cond b (x ∷ ys) ys) y
cons-keeps true x y ys h = inr h
cons-keeps false x y ys h = h

module _ {K : Type 0} where
  pub subclasses-from : (t : Classes K) (c x : ℕ) → Includes (subclasses t c) x → (i : ℕ) × (k : Class K) × (slice_get t i ≡ Some k) × (k.number ≡ x) × (has k.bases c ≡ true)
  subclasses-from [] c x h = absurd h
  subclasses-from (k ∷ t) c x h = elim (cons-either (has k.bases c) k.number x (subclasses t c) h) [
    | inl q ↦ (0, k, refl, q.1, q.0)
    | inr q ↦ let r = subclasses-from t c x q in (suc r.0, r.1, r.2, r.3, r.4)
  ]

  pub subclasses-has : (t : Classes K) (c i : ℕ) (k : Class K) → slice_get t i ≡ Some k → has k.bases c ≡ true → Includes (subclasses t c) k.number
  subclasses-has [] c i k e h = cc
  subclasses-has (j ∷ t) c zero k e h =
      let s : j ≡ k = cc in
      let q : has j.bases c ≡ true = ap (λ (z : Class K). has z.bases c) s ∙ h in
      rw q (inl (ap (λ (z : Class K). z.number) s))
  subclasses-has (j ∷ t) c (suc i) k e h = cons-keeps (has j.bases c) j.number k.number (subclasses t c) (subclasses-has t c i k e h)

-- a class that derives from another one has a base that does
pub derives-by : {K : Type 0} (t : Classes K) (x c : ℕ) (line bs : List ℕ) → lin t x ≡ Some line → bases_of t x ≡ Some bs → (x ≡ c → ⊥) → Includes line c → (b : ℕ) × (l : List ℕ) × Includes bs b × (lin t b ≡ Some l) × Includes l c
derives-by {K = K} t x c line bs e f n h =
    let m = lin-least t x line e in
    let same : m.bases ≡ bs = let q = m.of_class in cc in
    let all : all_some (map (lin t) m.bases) ≡ Some m.lines = ap all_some m.of_bases ∙ all_some-some m.lines in
    elim (m.least.order.members_only c h) [
      | inl q ↦ absurd (n q)
      | inr q ↦
          let r = from_flat_map (λ l. l) m.lines c q in
          let s = all_some-holds (lin t) m.bases m.lines r.0 all r.1 in
          let P : List ℕ → Type 0 = λ ds. Includes ds s.0 in
          (s.0, r.0, subst P same s.1, s.2, r.2)
    ]

-- what is known while the descendants are found, and behind the first their direct subclasses
pub record Finding (kept : List StoredClass) (c n : ℕ) (found : List ℕ) : Type 0 where
  pub own : (p : ℕ) → number_at kept p ≡ Some c → Includes found p
  pub within : (i : ℕ) → Includes found i → Descends kept c i
  pub followed : AreFollowed kept n found

module _ (kept : List StoredClass) (ok : IsCoherent kept) (c : ℕ) where
  class-is : (i : ℕ) (k : StoredClass) → slice_get kept i ≡ Some k → class_at (classes_of kept) k.number ≡ Some (class_of k)
  class-is i k e = place-class kept ok.sound.ascending i k e

  bases-is : (i : ℕ) (k : StoredClass) → slice_get kept i ≡ Some k → bases_of (classes_of kept) k.number ≡ Some k.bases
  bases-is i k e = ap (option_map (λ (j : Class PyStrInterned). j.bases)) (class-is i k e)

  plain-at : (i : ℕ) (k : StoredClass) → slice_get kept i ≡ Some k → slice_get (classes_of kept) i ≡ Some (class_of k)
  plain-at i k e = slice_get-map class_of kept i ∙ ap (option_map class_of) e

  kept-at : (i : ℕ) (j : Class PyStrInterned) → slice_get (classes_of kept) i ≡ Some j → (k : StoredClass) × (slice_get kept i ≡ Some k) × (class_of k ≡ j)
  kept-at i j e = go (slice_get kept i) refl (sym (slice_get-map class_of kept i) ∙ e)
    where
      go : (o : Option StoredClass) → slice_get kept i ≡ o → option_map class_of o ≡ Some j → (k : StoredClass) × (slice_get kept i ≡ Some k) × (class_of k ≡ j)
      go None h e = cc
      go (Some k) h e = (k, h, cc)

  -- the direct subclasses that are kept are there
  pub sub-there : (i n : ℕ) (k : StoredClass) → slice_get kept i ≡ Some k → Includes k.subclasses n → is_class (classes_of kept) n ≡ true
  sub-there i n k e h =
      let P : List ℕ → Type 0 = λ xs. Includes xs n in
      let r = subclasses-from (classes_of kept) k.number n (subst P (ok.subclasses i k e) h) in
      let q = kept-at r.0 r.1 r.2 in
      ap is_some (ap (class_at (classes_of kept)) (sym (ap (λ (z : Class PyStrInterned). z.number) q.2 ∙ r.3)) ∙ class-is r.0 q.0 q.1)

  -- and derive from what the class derives from
  sub-derives : (i j n : ℕ) (k m : StoredClass) → slice_get kept i ≡ Some k → has k.mro c ≡ true → Includes k.subclasses n → slice_get kept j ≡ Some m → m.number ≡ n → has m.mro c ≡ true
  sub-derives i j n k m e h s f num =
      let P : List ℕ → Type 0 = λ xs. Includes xs n in
      let r = subclasses-from (classes_of kept) k.number n (subst P (ok.subclasses i k e) s) in
      let q = kept-at r.0 r.1 r.2 in
      let at : r.0 ≡ j = one-place kept ok.sound.ascending r.0 j q.0 m q.1 f (ap (λ (z : Class PyStrInterned). z.number) q.2 ∙ r.3 ∙ sym num) in
      let is : q.0 ≡ m = let a : slice_get kept j ≡ Some q.0 = ap (slice_get kept) (sym at) ∙ q.1 in cc in
      let base : Includes m.bases k.number = (Decides-has m.bases k.number).0 (ap (λ (z : StoredClass). has z.bases k.number) (sym is) ∙ ap (λ (z : Class PyStrInterned). has z.bases k.number) q.2 ∙ r.4) in
      let line = ok.mro j m f in
      let in_line = lin-bases (classes_of kept) m.number m.mro m.bases k.number line (bases-is j m f) base in
      (Decides-has m.mro c).1 (lin-inside (classes_of kept) m.number m.mro k.number k.mro c line in_line (ok.mro i k e) ((Decides-has k.mro c).0 h))

  -- a base's subclasses have the class
  sub-noted : (i q : ℕ) (k m : StoredClass) → slice_get kept i ≡ Some k → slice_get kept q ≡ Some m → Includes m.bases k.number → Includes k.subclasses m.number
  sub-noted i q k m e f h =
      let P : List ℕ → Type 0 = λ xs. Includes xs m.number in
      subst P (sym (ok.subclasses i k e)) (subclasses-has (classes_of kept) k.number q (class_of m) (plain-at q m f) ((Decides-has m.bases k.number).1 h))

  pub finding-start : (p : ℕ) → number_at kept p ≡ Some c → (found : List ℕ) → found ≡ p ∷ [] → Finding kept c 0 found
  finding-start p e found is =
      let r = number-get kept p c e in
      let P : List ℕ → Type 0 = λ xs. Finding kept c 0 xs in
      subst P (sym is) (record {
        own = λ q f. inl (same-place kept ok.sound.ascending p q c e f);
        within = λ i h. elim h [
          | inl q ↦ record { class = r.0; at = ap (slice_get kept) (sym q) ∙ r.1; derives = own-derives p r.0 r.1 r.2 }
          | inr q ↦ absurd q
        ];
        followed = λ j i q k m l. absurd (omega (arith, l));
      })
    where
      own-derives : (i : ℕ) (k : StoredClass) → slice_get kept i ≡ Some k → k.number ≡ c → has k.mro c ≡ true
      own-derives i k e num = (Decides-has k.mro c).1 (Includes-equal k.mro k.number c num (lin-held (classes_of kept) k.number k.mro (ok.mro i k e)))

  pub finding-more : (n p : ℕ) (found new : List ℕ) (k : StoredClass) → Finding kept c n found → slice_get found n ≡ Some p → slice_get kept p ≡ Some k → AreAdded kept k.subclasses found new → Finding kept c (n + 1) new
  finding-more n p found new k f e g a = record {
    own = λ q h. keeps q (f.own q h);
    within = λ i h. elim (a.only i h) [
      | inl q ↦ f.within i q
      | inr q ↦
          let r = number-get kept i q.0 q.2 in
          let d = f.within p (Includes-at found n p e) in
          let same : d.class ≡ k = let b = d.at in cc in
          record { class = r.0; at = r.1; derives = sub-derives p i q.0 k r.0 g (ap (λ (z : StoredClass). has z.mro c) (sym same) ∙ d.derives) q.1 r.1 r.2 }
    ];
    followed = λ j i q m o l b d s h. elim (cases_eq j n) [
      | inl z ↦
          let here : i ≡ p = let w : slice_get new n ≡ Some i = ap (slice_get new) (sym z) ∙ b in let v = a.stay n p e in cc in
          let is : m ≡ k = let w : slice_get kept p ≡ Some m = ap (slice_get kept) (sym here) ∙ d in cc in
          a.all q o.number (sub-noted p q k o g s (Includes-equal o.bases m.number k.number (ap (λ (z : StoredClass). z.number) is) h)) (ap (option_map (λ (z : StoredClass). z.number)) s)
      | inr z ↦
          let old = before j i (omega (arith, l, z)) b in
          keeps q (f.followed j i q m o (omega (arith, l, z)) old d s h)
    ];
  }
    where
      keeps : (q : ℕ) → Includes found q → Includes new q
      keeps q h = let r = Includes-index found q h in Includes-at new r.0 q (a.stay r.0 q r.1)

      before : (j i : ℕ) → j < n → slice_get new j ≡ Some i → slice_get found j ≡ Some i
      before j i l b =
          let m : j < length found = let w = slice_get_within found n p e in omega (arith, l, w) in
          let o : slice_get found j ≡ Some (get_or found j i) = slice_get-get_or found j i m in
          let v = a.stay j (get_or found j i) o in
          let s : get_or found j i ≡ i = cc in
          o ∙ ap Some s

  -- where each was followed, all were found
  found-all : (found : List ℕ) (n : ℕ) → length found ≤ n → Finding kept c n found → (deep i : ℕ) (k : StoredClass) → length k.mro ≤ deep → slice_get kept i ≡ Some k → has k.mro c ≡ true → Includes found i
  found-all found n l f zero i k d e h = absurd (none k.mro d h)
    where
      none : (xs : List ℕ) → length xs ≤ 0 → has xs c ≡ true → ⊥
      none [] d h = false≢true h
      none (x ∷ xs) d h = omega (arith, d)
  found-all found n l f (suc deep) i k d e h = elim (cases_eq k.number c) [
    | inl q ↦ f.own i (ap (option_map (λ (z : StoredClass). z.number)) e ∙ ap Some q)
    | inr q ↦
        let line = ok.mro i k e in
        let r = derives-by (classes_of kept) k.number c k.mro k.bases line (bases-is i k e) q ((Decides-has k.mro c).0 h) in
        let m = class-here kept ok.sound.ascending r.0 (lin-within (classes_of kept) r.0 r.1 r.3) in
        let same : m.0.mro ≡ r.1 = let a : lin (classes_of kept) r.0 ≡ Some m.0.mro = ap (lin (classes_of kept)) (sym m.1.number) ∙ ok.mro m.1.place m.0 m.1.at in let b = r.3 in cc in
        let short : length m.0.mro < length k.mro = ap-less m.0.mro r.1 k.mro same (shorter (classes_of kept) k.number k.mro k.bases r.0 r.1 line (bases-is i k e) r.2 r.3) in
        let there = found-all found n l f deep m.1.place m.0 (omega (arith, short, d)) m.1.at (ap (λ xs. has xs c) same ∙ (Decides-has r.1 c).1 r.4) in
        let at = Includes-index found m.1.place there in
        let w = slice_get_within found at.0 m.1.place at.1 in
        f.followed at.0 m.1.place i m.0 k (omega (arith, l, w)) at.1 m.1.at e (Includes-equal k.bases r.0 m.0.number (sym m.1.number) r.2)
  ]
    where
      ap-less : (xs ys zs : List ℕ) → xs ≡ ys → length ys < length zs → length xs < length zs
      ap-less xs ys zs s l = let P : List ℕ → Type 0 = λ v. length v < length zs in subst P (sym s) l

  pub finding-end : (found : List ℕ) (n : ℕ) → length found ≤ n → Finding kept c n found → Distinct found → AreDescendants kept c found
  finding-end found n l f d = record { distinct = d; within = f.within; all = λ i k e h. found-all found n l f (length k.mro) i k (omega arith) e h }

  number-or : ℕ → ℕ
  number-or i = unwrap_or (number_at kept i) 0

  number-is : (i : ℕ) (k : StoredClass) → slice_get kept i ≡ Some k → number-or i ≡ k.number
  unfolding number-or
  number-is i k e = ap (λ o. unwrap_or (option_map (λ (z : StoredClass). z.number) o) 0) e

  apart : (found : List ℕ) → ((i : ℕ) → Includes found i → Descends kept c i) → (x y : ℕ) → Includes found x → Includes found y → number-or x ≡ number-or y → x ≡ y
  apart found within x y h k e =
      let a = within x h in
      let b = within y k in
      one-place kept ok.sound.ascending x y a.class b.class a.at b.at (sym (number-is x a.class a.at) ∙ e ∙ number-is y b.class b.at)

  in_all : (found : List ℕ) → ((i : ℕ) → Includes found i → Descends kept c i) → (n : ℕ) → Includes (map number-or found) n → Includes (descendants (classes_of kept) c) n
  in_all found within n h =
      let r = from-map number-or found n h in
      let d = within r.0 r.1 in
      let num : d.class.number ≡ n = sym (number-is r.0 d.class d.at) ∙ r.2 in
      let there : is_class (classes_of kept) n ≡ true = ap (is_class (classes_of kept)) (sym num) ∙ ap is_some (class-is r.0 d.class d.at) in
      let sub : is_sub (classes_of kept) n c ≡ true = ap (λ x. is_sub (classes_of kept) x c) (sym num) ∙ ap (is_along c) (ok.mro r.0 d.class d.at) ∙ d.derives in
      Includes-filter (λ x. is_sub (classes_of kept) x c) (numbers_of (classes_of kept)) n (at-held (classes_of kept) n there) sub

  -- no more are found than there are
  few : (found : List ℕ) → Distinct found → ((i : ℕ) → Includes found i → Descends kept c i) → length found ≤ length (descendants (classes_of kept) c)
  few found distinct within =
      let n = distinct-fewer (map number-or found) (descendants (classes_of kept) c) (distinct-map number-or found distinct (apart found within)) (in_all found within) in
      let same = length-map found number-or in
      omega (arith, n, same)

  -- what is added up along them is no more than along all of them
  pub places-few : (u : Classes PyStrInterned) (g : ℕ → ℕ) (found : List ℕ) → AreDescendants kept c found → ((i : ℕ) (k : StoredClass) → Includes found i → slice_get kept i ≡ Some k → g i ≡ line_length (lin u k.number)) → sum_by g found ≤ line_places u (descendants (classes_of kept) c)
  places-few u g found are is =
      let n = distinct-places u (map number-or found) (descendants (classes_of kept) c) (distinct-map number-or found are.distinct (apart found are.within)) (in_all found are.within) in
      let same = along u g found (λ i h. let d = are.within i h in is i d.class h d.at ∙ ap (λ x. line_length (lin u x)) (sym (number-is i d.class d.at))) in
      omega (arith, n, same)
    where
      along : (u : Classes PyStrInterned) (g : ℕ → ℕ) (found : List ℕ) → ((i : ℕ) → Includes found i → g i ≡ line_length (lin u (number-or i))) → sum_by g found ≡ line_places u (map number-or found)
      along u g [] h = refl
      along u g (i ∷ found) h = sum_by-cons g i found ∙ ap (λ z. z + sum_by g found) (h i (inl refl)) ∙ ap (λ z. line_length (lin u (number-or i)) + z) (along u g found (λ j k. h j (inr k)))

  pub found-few : (found : List ℕ) → AreDescendants kept c found → length found ≤ length (descendants (classes_of kept) c)
  found-few found are = few found are.distinct are.within

  pub finding-full : (found : List ℕ) (n : ℕ) → length kept ≤ n → Finding kept c n found → Distinct found → AreDescendants kept c found
  finding-full found n l f d =
      let a = few found d f.within in
      let b = filter-fewer (λ x. is_sub (classes_of kept) x c) (numbers_of (classes_of kept)) in
      let e = length-map (classes_of kept) (λ (k : Class PyStrInterned). k.number) in
      let g = length-map kept class_of in
      finding-end found n (omega (arith, a, b, e, g, l)) f d

-- an element of a list stands in a permutation of it
pub moved-at : {A : Type 0} (xs ys : List A) (j : ℕ) (x : A) → IsPermutation xs ys → slice_get xs j ≡ Some x → (i : ℕ) × (slice_get ys i ≡ Some x)
moved-at xs ys j x p e =
    let l = slice_get_within xs j x e in
    let r = Contains-permutation xs ys x p (j, l, get_or_from_slice_get xs j x x e) in
    (r.0, slice_get-get_or ys r.0 x r.1 ∙ ap Some r.2)

module _ (kept : List StoredClass) where
  -- a place more, with its length
  pub measured-more : (places : List ℕ) (ranked : List Ranked) (i : ℕ) (y : Ranked) → length ranked ≡ i → ((j : ℕ) (r : Ranked) → slice_get ranked j ≡ Some r → (slice_get places j ≡ Some r.place) × ((k : StoredClass) → slice_get kept r.place ≡ Some k → r.length ≡ length k.mro)) → slice_get places i ≡ Some y.place → ((k : StoredClass) → slice_get kept y.place ≡ Some k → y.length ≡ length k.mro) → (j : ℕ) (r : Ranked) → slice_get (ranked ++ y ∷ []) j ≡ Some r → (slice_get places j ≡ Some r.place) × ((k : StoredClass) → slice_get kept r.place ≡ Some k → r.length ≡ length k.mro)
  measured-more places ranked i y n h e l j r f = elim (get-push_cases ranked y j r f) [
    | inl a ↦ h j r a
    | inr b ↦
        let P : Ranked → Type 0 = λ z. (slice_get places j ≡ Some z.place) × ((k : StoredClass) → slice_get kept z.place ≡ Some k → z.length ≡ length k.mro) in
        subst P b.1 (ap (slice_get places) (b.0 ∙ n) ∙ e, l)
  ]

  measured-sum : (places : List ℕ) (ranked : List Ranked) → AreMeasured kept places ranked → (f : ℕ → ℕ) → sum_by (λ (r : Ranked). f r.place) ranked ≡ sum_by f places
  measured-sum [] [] m f = refl
  measured-sum [] (r ∷ ranked) m f = let n = m.count in absurd (omega (arith, n))
  measured-sum (i ∷ places) [] m f = let n = m.count in absurd (omega (arith, n))
  measured-sum (i ∷ places) (r ∷ ranked) m f =
      let n = m.count in
      let same : r.place ≡ i = let q = (m.at 0 r refl).0 in cc in
      let rest = measured-sum places ranked (record { count = omega (arith, n); at = λ j x e. m.at (suc j) x e }) f in
      sum_by-cons (λ (x : Ranked). f x.place) r ranked ∙ ap (λ z. f z + sum_by (λ (x : Ranked). f x.place) ranked) same ∙ ap (λ z. f i + z) rest ∙ sym (sum_by-cons f i places)

  -- the descendants by the lengths of their linearisations
  pub ranked-is : (c : ℕ) (places : List ℕ) (before after : List Ranked) → AreDescendants kept c places → AreMeasured kept places before → IsPermutation before after → ((i j : ℕ) (a b : Ranked) → i ≤ j → slice_get after i ≡ Some a → slice_get after j ≡ Some b → a.length ≤ b.length) → AreRanked kept c after
  ranked-is c places before after are m p up = record {
    within = λ j r e.
        let q = moved-at after before j r (IsPermutation-sym before after p) e in
        let a = m.at q.0 r q.1 in
        let d = are.within r.place (Includes-at places q.0 r.place a.0) in
        record { class = d.class; at = d.at; derives = d.derives; length = a.1 d.class d.at };
    all = λ i k e h.
        let q = Includes-index places i (are.all i k e h) in
        let w = slice_get_within places q.0 i q.1 in
        let n = m.count in
        let r = some-in before q.0 (omega (arith, w, n)) in
        let a = m.at q.0 r.0 r.1 in
        let s = moved-at before after q.0 r.0 p r.1 in
        record { index = s.0; one = r.0; at = s.1; place = let b = a.0 in let o = q.1 in cc };
    rises = up;
    places = places;
    found = are;
    sums = λ f. sum_by-IsPermutation (λ (r : Ranked). f r.place) before after p ∙ measured-sum places before m f;
  }
