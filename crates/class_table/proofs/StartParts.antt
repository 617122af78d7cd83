-- The parts of a new machine's world: loops over the built-in classes and the names that are known.
use Rattle.class_table.proofs.Below.{ℕ, zero, suc, Bool, true, false, cond, List, [], length, Option, Some, None, refl, sym, ap, ◌∙◌, subst, arith, get_or, take, map, fold, true≢false, slice_get, nat_lt, is_some, Bor, bytes_eq, ltb-true, eqb-true, eqb-false, bytes_eq-Decides, BuiltIn, Object, PyTypeFlags, base_of, flags_of, built_in_bases, built_in_flags, all_built_ins, known_texts, AreDistinct, bases_from, built_class, PyStrInterned, Classes, class_at, is_class, limit, says_dict, has_dict, any_has_dict, has_its_dict, IsBelow, says_so}
use Rattle.std.proofs.Common.{◌≡◌, ◌+◌, ◌<◌, ◌≤◌, ◌∷◌, ◌++◌}
use Rattle.std.specs.Prelude.{◌&&◌, ◌||◌, not, ltb, eqb}
use Rattle.py_node.specs.BuiltIns.{place_of}
use Rattle.class_table.proofs.Dicts.{or-no}

module _ {A B : Type 0} (f : A → B) where
  pub map-step : (xs : List A) (i : ℕ) (d : A) → i < length xs → map f (take (suc i) xs) ≡ map f (take i xs) ++ f (get_or xs i d) ∷ []
  map-step [] i d h = absurd (omega arith)
  map-step (x ∷ xs) zero d h = refl
  map-step (x ∷ xs) (suc i) d h = ap (λ ys. f x ∷ ys) (map-step xs i d (omega arith))

  pub map-end : (xs : List A) (i : ℕ) → length xs ≤ i → map f (take i xs) ≡ map f xs
  map-end [] zero h = refl
  map-end [] (suc i) h = refl
  map-end (x ∷ xs) zero h = absurd (omega arith)
  map-end (x ∷ xs) (suc i) h = ap (λ ys. f x ∷ ys) (map-end xs i (omega arith))

  pub length-mapped : (xs : List A) (i : ℕ) → i ≤ length xs → length (map f (take i xs)) ≡ i
  length-mapped xs zero h = refl
  length-mapped [] (suc i) h = absurd (omega arith)
  length-mapped (x ∷ xs) (suc i) h = ap suc (length-mapped xs i (omega arith))

  -- what stands among the first ones stands below their number
  pub mapped-early : (xs : List A) (i n : ℕ) (y : B) → slice_get (map f (take i xs)) n ≡ Some y → (n < i) × (slice_get (map f xs) n ≡ Some y)
  mapped-early xs zero n y e = cc
  mapped-early [] (suc i) n y e = cc
  mapped-early (x ∷ xs) (suc i) zero y e = (omega arith, e)
  mapped-early (x ∷ xs) (suc i) (suc n) y e = let h = mapped-early xs i n y e in (omega (arith, h.0), h.1)

  pub mapped-at : (xs : List A) (i : ℕ) (d : A) → i < length xs → slice_get (map f xs) i ≡ Some (f (get_or xs i d))
  mapped-at [] i d h = absurd (omega arith)
  mapped-at (x ∷ xs) zero d h = refl
  mapped-at (x ∷ xs) (suc i) d h = mapped-at xs i d (omega arith)

  -- the next of different ones is new
  pub next-new : (xs : List A) (i n : ℕ) (d : A) → i < length xs → ((n m : ℕ) (y : B) → slice_get (map f xs) n ≡ Some y → slice_get (map f xs) m ≡ Some y → n ≡ m) → slice_get (map f (take i xs)) n ≡ Some (f (get_or xs i d)) → ⊥
  next-new xs i n d h apart e =
      let early = mapped-early xs i n _ e in
      let same : n ≡ i = apart n i _ early.1 (mapped-at xs i d h) in
      omega (arith, early.0, same)

pub split : (a b : Bool) → a && b ≡ true → (a ≡ true) × (b ≡ true)
split true b h = (refl, h)
split false b h = cc

-- whether the text differs from each of the others
abbrev differs : List ℕ → List (List ℕ) → Bool
differs x [] = true
differs x (y ∷ ys) = not (bytes_eq x y) && differs x ys

abbrev all_differ : List (List ℕ) → Bool
all_differ [] = true
all_differ (x ∷ xs) = differs x xs && all_differ xs

differs-none : (x : List ℕ) (xs : List (List ℕ)) → differs x xs ≡ true → (n : ℕ) → slice_get xs n ≡ Some x → ⊥
differs-none x [] h n e = cc
differs-none x (y ∷ ys) h zero e =
    let same : x ≡ y = cc in
    true≢false (sym (split (not (bytes_eq x y)) (differs x ys) h).0 ∙ ap not ((bytes_eq-Decides x y).1 same))
differs-none x (y ∷ ys) h (suc n) e = differs-none x ys (split (not (bytes_eq x y)) (differs x ys) h).1 n e

differ-distinct : (xs : List (List ℕ)) → all_differ xs ≡ true → AreDistinct xs
differ-distinct [] h n m t a b = cc
differ-distinct (x ∷ xs) h zero zero t a b = refl
differ-distinct (x ∷ xs) h zero (suc m) t a b =
    let same : t ≡ x = cc in
    absurd (differs-none x xs (split (differs x xs) (all_differ xs) h).0 m (b ∙ ap Some same))
differ-distinct (x ∷ xs) h (suc n) zero t a b =
    let same : t ≡ x = cc in
    absurd (differs-none x xs (split (differs x xs) (all_differ xs) h).0 n (a ∙ ap Some same))
differ-distinct (x ∷ xs) h (suc n) (suc m) t a b = ap suc (differ-distinct xs (split (differs x xs) (all_differ xs) h).1 n m t a b)

pub known-distinct : AreDistinct known_texts
unfolding known_texts
known-distinct = differ-distinct known_texts refl

-- whether a class's base has a place below the given one. Only the first class has none
abbrev pub base_below : ℕ → Option ℕ → Bool
base_below n None = eqb n 0
base_below n (Some b) = ltb b n

abbrev bases_below : ℕ → List BuiltIn → Bool
bases_below n [] = true
bases_below n (b ∷ bs) = base_below n (base_of b) && bases_below (suc n) bs

bases-at : (n : ℕ) (bs : List BuiltIn) (i : ℕ) (d : BuiltIn) → bases_below n bs ≡ true → i < length bs → base_below (n + i) (base_of (get_or bs i d)) ≡ true
bases-at n [] i d h l = absurd (omega arith)
bases-at n (b ∷ bs) zero d h l = let z : n ≡ n + 0 = omega arith in subst (λ n. base_below n (base_of b) ≡ true) z (split (base_below n (base_of b)) (bases_below (suc n) bs) h).0
bases-at n (b ∷ bs) (suc i) d h l =
    let z : suc n + i ≡ n + suc i = omega arith in
    subst (λ n. base_below n (base_of (get_or bs i d)) ≡ true) z (bases-at (suc n) bs i d (split (base_below n (base_of b)) (bases_below (suc n) bs) h).1 (omega arith))

-- the base of a class that is to be made, by the bases that it has
pub one-below : (t : Classes PyStrInterned) (n : ℕ) (bs : List ℕ) (b : Option ℕ) → bs ≡ bases_from b → base_below n b ≡ true → ((c : ℕ) → c < n → is_class t c ≡ true) → IsBelow t n bs
one-below t n [] None e h k = eqb-true n 0 h
one-below t n [] (Some b) e h k = cc
one-below t n (c ∷ bs) None e h k = cc
one-below t n (c ∷ []) (Some b) e h k = let same : c ≡ b = cc in let l = ltb-true b n h in (k c (omega (arith, same, l)), tt)
one-below t n (c ∷ d ∷ bs) (Some b) e h k = cc

-- at most one
pub one-long : (bs : List ℕ) (b : Option ℕ) → bs ≡ bases_from b → length bs ≤ 1
one-long bs None e = let l = ap (λ (ys : List ℕ). length ys) e in omega (arith, l)
one-long bs (Some b) e = let l = ap (λ (ys : List ℕ). length ys) e in omega (arith, l)

pub built-below : (i : ℕ) (d : BuiltIn) → i < 23 → base_below i (base_of (get_or all_built_ins i d)) ≡ true
unfolding all_built_ins base_of built_in_bases place_of
built-below i d h = let z : 0 + i ≡ i = omega arith in subst (λ n. base_below n (base_of (get_or all_built_ins i d)) ≡ true) z (bases-at 0 all_built_ins i d refl h)

-- the built-in classes that were made so far: each has its place as its number
places_at : ℕ → List BuiltIn → Bool
places_at n [] = true
places_at n (b ∷ bs) = eqb (place_of b) n && places_at (suc n) bs

early-there : (n : ℕ) (bs : List BuiltIn) (i : ℕ) → places_at n bs ≡ true → i ≤ length bs → (c : ℕ) → n ≤ c → c < n + i → is_class (map (built_class {K = PyStrInterned}) (take i bs)) c ≡ true
unfolding places_at
early-there n bs zero h l c m k = absurd (omega arith)
early-there n [] (suc i) h l c m k = absurd (omega arith)
early-there n (b ∷ bs) (suc i) h l c m k = go (eqb (place_of b) c) refl (early-there (suc n) bs i (split (eqb (place_of b) n) (places_at (suc n) bs) h).1 (omega arith) c)
  where
    go : (v : Bool) → eqb (place_of b) c ≡ v → (suc n ≤ c → c < suc n + i → is_class (map (built_class {K = PyStrInterned}) (take i bs)) c ≡ true) → is_some (cond v (Some (built_class {K = PyStrInterned} b)) (class_at (map (built_class {K = PyStrInterned}) (take i bs)) c)) ≡ true
    go true e more = refl
    go false e more =
        let both = split (eqb (place_of b) n) (places_at (suc n) bs) h in
        let here = eqb-true (place_of b) n both.0 in
        let away = eqb-false (place_of b) c e in
        more (omega (arith, here, away, m)) (omega arith)

early-limit : (n : ℕ) (bs : List BuiltIn) (i : ℕ) → places_at n bs ≡ true → i ≤ length bs → limit (map (built_class {K = PyStrInterned}) (take i bs)) ≤ n + i
unfolding places_at
early-limit n bs zero h l = omega arith
early-limit n [] (suc i) h l = absurd (omega arith)
early-limit n (b ∷ bs) (suc i) h l = go (nat_lt (place_of b) (limit (map (built_class {K = PyStrInterned}) (take i bs)))) (early-limit (suc n) bs i (split (eqb (place_of b) n) (places_at (suc n) bs) h).1 (omega arith))
  where
    go : (v : Bool) → limit (map (built_class {K = PyStrInterned}) (take i bs)) ≤ suc n + i → cond v (limit (map (built_class {K = PyStrInterned}) (take i bs))) (suc (place_of b)) ≤ n + suc i
    go true r = omega arith
    go false r = let here = eqb-true (place_of b) n (split (eqb (place_of b) n) (places_at (suc n) bs) h).0 in omega arith

pub made-there : (i : ℕ) → i ≤ 23 → (c : ℕ) → c < i → is_class (map (built_class {K = PyStrInterned}) (take i all_built_ins)) c ≡ true
unfolding all_built_ins place_of places_at
made-there i l c k = early-there 0 all_built_ins i refl l c (omega arith) (omega arith)

pub made-limit : (i : ℕ) → i ≤ 23 → limit (map (built_class {K = PyStrInterned}) (take i all_built_ins)) ≤ i
unfolding all_built_ins place_of places_at
made-limit i l = let r = early-limit 0 all_built_ins i refl l in omega arith

place-from : (n : ℕ) (bs : List BuiltIn) (i : ℕ) (d : BuiltIn) → places_at n bs ≡ true → i < length bs → place_of (get_or bs i d) ≡ n + i
unfolding places_at
place-from n [] i d h l = absurd (omega arith)
place-from n (b ∷ bs) zero d h l = let e = eqb-true (place_of b) n (split (eqb (place_of b) n) (places_at (suc n) bs) h).0 in omega arith
place-from n (b ∷ bs) (suc i) d h l = let r = place-from (suc n) bs i d (split (eqb (place_of b) n) (places_at (suc n) bs) h).1 (omega arith) in omega arith

pub made-place : (i : ℕ) (d : BuiltIn) → i < 23 → place_of (get_or all_built_ins i d) ≡ i
unfolding all_built_ins place_of places_at
made-place i d l = let r = place-from 0 all_built_ins i d refl l in omega arith

-- no built-in class that gives its objects a dict is a base of another
gives_none : ℕ → List BuiltIn → Bool
gives_none c [] = true
gives_none c (b ∷ bs) = not (eqb (place_of b) c && says_so (flags_of b)) && gives_none c bs

base_plain : Option ℕ → Bool
base_plain None = true
base_plain (Some c) = gives_none c all_built_ins

bases_plain : List BuiltIn → Bool
bases_plain [] = true
bases_plain (b ∷ bs) = base_plain (base_of b) && bases_plain bs

none-early : (c : ℕ) (bs : List BuiltIn) (i : ℕ) → gives_none c bs ≡ true → has_dict (map (built_class {K = PyStrInterned}) (take i bs)) c ≡ false
unfolding gives_none
none-early c bs zero h = refl
none-early c [] (suc i) h = refl
none-early c (b ∷ bs) (suc i) h =
    let both = split (not (eqb (place_of b) c && says_so (flags_of b))) (gives_none c bs) h in
    go (eqb (place_of b) c) both.0 (none-early c bs i both.1)
  where
    go : (v : Bool) → not (v && says_so (flags_of b)) ≡ true → has_dict (map (built_class {K = PyStrInterned}) (take i bs)) c ≡ false → says_dict (cond v (Some (built_class {K = PyStrInterned} b)) (class_at (map (built_class {K = PyStrInterned}) (take i bs)) c)) ≡ false
    go true e more = no (says_so (flags_of b)) e
      where
        no : (v : Bool) → not v ≡ true → v ≡ false
        no true e = cc
        no false e = refl
    go false e more = more

plain-at : (bs : List BuiltIn) (i : ℕ) (d : BuiltIn) → bases_plain bs ≡ true → i < length bs → base_plain (base_of (get_or bs i d)) ≡ true
unfolding bases_plain
plain-at [] i d h l = absurd (omega arith)
plain-at (b ∷ bs) zero d h l = (split (base_plain (base_of b)) (bases_plain bs) h).0
plain-at (b ∷ bs) (suc i) d h l = plain-at bs i d (split (base_plain (base_of b)) (bases_plain bs) h).1 (omega arith)

built-plain : (i : ℕ) (d : BuiltIn) → i < 23 → base_plain (base_of (get_or all_built_ins i d)) ≡ true
unfolding all_built_ins base_of built_in_bases flags_of built_in_flags place_of gives_none base_plain bases_plain
built-plain i d h = plain-at all_built_ins i d refl h

-- each built-in class brings a dict where its flags say that it gives one
pub built-dict : (i j : ℕ) (d : BuiltIn) → j < 23 → says_dict (Some (built_class {K = PyStrInterned} (get_or all_built_ins j d))) ≡ has_its_dict (map (built_class {K = PyStrInterned}) (take i all_built_ins)) (Some (built_class (get_or all_built_ins j d)))
unfolding base_plain
built-dict i j d l = go (base_of (get_or all_built_ins j d)) (built-plain j d l)
  where
    brings : Bool
    brings = says_so (flags_of (get_or all_built_ins j d))

    go : (o : Option ℕ) → base_plain o ≡ true → brings ≡ (brings || any_has_dict (map (built_class {K = PyStrInterned}) (take i all_built_ins)) (bases_from o))
    go None h = sym (or-no brings)
    go (Some c) h = sym (ap (λ v. brings || (v || false)) (none-early c all_built_ins i h) ∙ or-no brings)

pub built-count : length all_built_ins ≡ 23
unfolding all_built_ins
built-count = refl

-- a row of the table of built-in classes
abbrev pub Row : Type 0
Row = BuiltIn × Bor (List ℕ) × Option BuiltIn × PyTypeFlags

abbrev pub no_row : Row
no_row = (Object, record { ref_ptr = (0, 0); now = [] }, None, record { 0 = 0 })

-- the class in a row
pub class-in-row : (rows : List Row) (i : ℕ) (r : Row) (d : BuiltIn) → i < length rows → get_or (map (λ r. r.0) rows) i d ≡ (get_or rows i r).0
class-in-row [] i r d l = absurd (omega arith)
class-in-row (x ∷ xs) zero r d l = refl
class-in-row (x ∷ xs) (suc i) r d l = class-in-row xs i r d (omega arith)

-- nothing stands past the end of a list
pub past : {A : Type 0} (xs : List A) (i : ℕ) → length xs ≤ i → slice_get xs i ≡ None
past [] i l = refl
past (x ∷ xs) zero l = absurd (omega arith)
past (x ∷ xs) (suc i) l = past xs i (omega arith)

-- the class in a row, by its place
pub in-row : (rows : List Row) (i : ℕ) → map (λ r. r.0) rows ≡ all_built_ins → i < length rows → get_or all_built_ins i Object ≡ (get_or rows i no_row).0
in-row rows i e l = sym (ap (λ bs. get_or bs i Object) e) ∙ class-in-row rows i no_row Object l

-- a walk over the rows for their classes is one over the classes
pub fold-rows : {Y : Type 0} (f : Y → BuiltIn → Y) (a : Y) (rows : List Row) → fold (λ y r. f y r.0) a rows ≡ fold f a (map (λ r. r.0) rows)
fold-rows f a [] = refl
fold-rows f a (r ∷ rows) = fold-rows f (f a r.0) rows
