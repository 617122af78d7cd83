-- Classes that are kept, by their numbers.
use Rattle.class_table.proofs.Below.{ℕ, suc, List, [], length, get_or, Option, Some, None, Ok, Err, Bool, true, false, refl, sym, ap, ◌∙◌, arith, slice_get, option_map, is_some, leb, nat_lt, IsSearchInRange, IsBinarySearchResult, IsNonDecreasingBy, nat_cmp, ordering_index, ranked, ltb-true, ltb-false, le-leb, lt-leb, nat_tests, IsNonDecreasingBy-from_default, length-map, slice_get-map, slice_get-get_or, slice_get_within, get_or_from_slice_get, PyStrInterned, Class, class_at, is_class, is_ascending, limit, numbers_of, some-of, at-place, at-number, at-from_place, limit-last, Decides-ascending, StoredClass, IsHere, class_of, number_at, classes_of}
use Rattle.std.proofs.Common.{◌≡◌, ◌<◌, ◌≤◌, ◌∷◌}

pub element : (kept : List StoredClass) (i : ℕ) → i < length kept → StoredClass
element [] i l = absurd (omega arith)
element (k ∷ kept) i l = k

pub number-get : (kept : List StoredClass) (i c : ℕ) → number_at kept i ≡ Some c → (k : StoredClass) × (slice_get kept i ≡ Some k) × (k.number ≡ c)
number-get kept i c e = go (slice_get kept i) refl e
  where
    go : (o : Option StoredClass) → slice_get kept i ≡ o → option_map (λ (k : StoredClass). k.number) o ≡ Some c → (k : StoredClass) × (slice_get kept i ≡ Some k) × (k.number ≡ c)
    go None h e = cc
    go (Some k) h e = (k, h, cc)

pub number-within : (kept : List StoredClass) (i c : ℕ) → number_at kept i ≡ Some c → i < length kept
number-within kept i c e = let r = number-get kept i c e in slice_get_within kept i r.0 r.1

plain-get : (kept : List StoredClass) (i : ℕ) (k : StoredClass) → slice_get kept i ≡ Some k → slice_get (classes_of kept) i ≡ Some (class_of k)
plain-get kept i k e = slice_get-map class_of kept i ∙ ap (option_map class_of) e

kept-get : (kept : List StoredClass) (i : ℕ) (j : Class PyStrInterned) → slice_get (classes_of kept) i ≡ Some j → (k : StoredClass) × (slice_get kept i ≡ Some k) × (class_of k ≡ j)
kept-get kept i j e = go (slice_get kept i) refl (sym (slice_get-map class_of kept i) ∙ e)
  where
    go : (o : Option StoredClass) → slice_get kept i ≡ o → option_map class_of o ≡ Some j → (k : StoredClass) × (slice_get kept i ≡ Some k) × (class_of k ≡ j)
    go None h e = cc
    go (Some k) h e = (k, h, cc)

pub read-number : (kept : List StoredClass) (i c : ℕ) (k : StoredClass) → number_at kept i ≡ Some c → k ≡ get_or kept i k → k.number ≡ c
read-number kept i c k e h =
    let r = number-get kept i c e in
    let s : k ≡ r.0 = h ∙ get_or_from_slice_get kept i r.0 k r.1 in
    ap (λ (z : StoredClass). z.number) s ∙ r.2

pub read-at : (kept : List StoredClass) (i c : ℕ) (k : StoredClass) → number_at kept i ≡ Some c → k ≡ get_or kept i k → slice_get kept i ≡ Some k
read-at kept i c k e h = slice_get-get_or kept i k (number-within kept i c e) ∙ ap Some (sym h)

module _ (kept : List StoredClass) (up : is_ascending (classes_of kept) ≡ true) where
  pub ascends : (i j : ℕ) (a b : StoredClass) → i < j → slice_get kept i ≡ Some a → slice_get kept j ≡ Some b → a.number < b.number
  ascends i j a b l h k = (Decides-ascending (classes_of kept)).0 up i j (class_of a) (class_of b) l (plain-get kept i a h) (plain-get kept j b k)

  pub place-class : (i : ℕ) (k : StoredClass) → slice_get kept i ≡ Some k → class_at (classes_of kept) k.number ≡ Some (class_of k)
  place-class i k e = at-from_place (classes_of kept) i (class_of k) up (plain-get kept i k e)

  pub here-class : (c : ℕ) (k : StoredClass) → IsHere kept c k → class_at (classes_of kept) c ≡ Some (class_of k)
  here-class c k h = ap (class_at (classes_of kept)) (sym h.number) ∙ place-class h.place k h.at

  pub class-here : (c : ℕ) → is_class (classes_of kept) c ≡ true → (k : StoredClass) × IsHere kept c k
  class-here c e =
      let r = some-of (class_at (classes_of kept) c) e in
      let p = at-place (classes_of kept) c r.0 r.1 in
      let k = kept-get kept p.0 r.0 p.1 in
      (k.0, record { place = p.0; at = k.1; number = ap (λ (j : Class PyStrInterned). j.number) k.2 ∙ at-number (classes_of kept) c r.0 r.1 })

  pub read-class : (i c : ℕ) (k : StoredClass) → number_at kept i ≡ Some c → k ≡ get_or kept i k → class_at (classes_of kept) c ≡ Some (class_of k)
  read-class i c k e h = here-class c k (record { place = i; at = read-at kept i c k e h; number = read-number kept i c k e h })

  -- a number that no class has
  none-here : (c : ℕ) → ((i : ℕ) (k : StoredClass) → slice_get kept i ≡ Some k → k.number ≡ c → ⊥) → class_at (classes_of kept) c ≡ None
  none-here c n = go (class_at (classes_of kept) c) refl
    where
      go : (o : Option (Class PyStrInterned)) → class_at (classes_of kept) c ≡ o → o ≡ None
      go None e = refl
      go (Some k) e = let h = class-here c (ap is_some e) in absurd (n h.1.place h.0 h.1.at h.1.number)

  numbers-rise : (c : ℕ) (d : StoredClass) → IsNonDecreasingBy (λ (k : StoredClass). ordering_index (nat_cmp k.number c)) kept
  numbers-rise c d = IsNonDecreasingBy-from_default (λ (k : StoredClass). ordering_index (nat_cmp k.number c)) kept d (λ i j le in_range.
      let a : i < j → (get_or kept i d).number < (get_or kept j d).number = λ l. ascends i j (get_or kept i d) (get_or kept j d) l (slice_get-get_or kept i d (omega arith)) (slice_get-get_or kept j d in_range) in
      let keys_rise : (get_or kept i d).number ≤ (get_or kept j d).number = grind (arith, a, λ (same : i ≡ j). ap (λ n. (get_or kept n d).number) same) in
      grind (arith, nat_tests))

  -- what a search for a number finds
  pub searched-place : (c i : ℕ) → IsSearchInRange (Ok i) (length kept) → IsBinarySearchResult (λ (k : StoredClass). nat_cmp k.number c) kept (Ok i) → number_at kept i ≡ Some c
  searched-place c i l equal =
      let r : (d : StoredClass) → number_at kept i ≡ Some c = λ d. ap (option_map (λ (k : StoredClass). k.number)) (slice_get-get_or kept i d l) ∙ ap Some (ranked _ c _ (sym (equal d))) in
      r (element kept i l)

  pub searched-none : (c i : ℕ) → IsBinarySearchResult (λ (k : StoredClass). nat_cmp k.number c) kept (Err i) → class_at (classes_of kept) c ≡ None
  searched-none c i parted = none-here c (λ j k e n.
      let l = slice_get_within kept j k e in
      let h = get_or_from_slice_get kept j k k e in
      let m = ap (λ (z : StoredClass). z.number) h in
      let before : j < i → (get_or kept j k).number < c = λ b. ranked _ c _ (sym ((parted (numbers-rise c k)).0 j k (omega arith) b)) in
      let after : i ≤ j → c < (get_or kept j k).number = λ b. ranked _ c _ (sym ((parted (numbers-rise c k)).1 j k b l)) in
      grind (arith, before, after))

  pub place-number : (i : ℕ) (k : StoredClass) → i < length kept → k ≡ get_or kept i k → (slice_get (numbers_of (classes_of kept)) i ≡ Some k.number) × (is_class (classes_of kept) k.number ≡ true)
  place-number i k l e =
      let at : slice_get kept i ≡ Some k = slice_get-get_or kept i k l ∙ ap Some (sym e) in
      (slice_get-map (λ (j : Class PyStrInterned). j.number) (classes_of kept) i ∙ ap (option_map (λ (j : Class PyStrInterned). j.number)) (plain-get kept i k at), ap is_some (place-class i k at))

  -- what is greater than the last number is greater than all
  pub limit-place : (i n : ℕ) (k : StoredClass) → length kept ≡ suc i → k ≡ get_or kept i k → nat_lt k.number n ≡ leb (limit (classes_of kept)) n
  limit-place i n k l e =
      let at : slice_get kept i ≡ Some k = slice_get-get_or kept i k (omega arith) ∙ ap Some (sym e) in
      let is = limit-last (classes_of kept) i (class_of k) up (plain-get kept i k at) (length-map kept class_of ∙ l) in
      either (nat_lt k.number n) refl is
    where
      either : (b : Bool) → nat_lt k.number n ≡ b → limit (classes_of kept) ≡ suc k.number → b ≡ leb (limit (classes_of kept)) n
      either true h is = let m = ltb-true k.number n h in sym (le-leb (limit (classes_of kept)) n (omega arith))
      either false h is = let m = ltb-false k.number n h in sym (lt-leb (limit (classes_of kept)) n (omega arith))
