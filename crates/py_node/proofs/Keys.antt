-- Keys one by one: the first that passes a test, and keys of which none stands twice.
use Rattle.py_node.proofs.Below.{ℕ, zero, suc, Bool, List, [], length, take, drop, get_or, cond, None, true, false, true≢false, refl, sym, ap, ◌∙◌, arith, position, position_from, list_any, remove, AllByRecursion, IsDistinct, insert_key, drop-cons, take-suc, drop_all, int_eq_equiv, is_same_key, PyDictKey, eq-value}
use Rattle.py_node.specs.declared.dict.PyDictKey.TheVariants.{Number, Text}
use Rattle.py_node.proofs.Dicts.{none-passes}
use Rattle.std.proofs.Common.{◌≡◌, ◌+◌, ◌<◌, ◌≤◌, ◌||◌, if◌then◌else◌, ◌∷◌, ◌++◌, Option, Some}

next : (i : ℕ) → suc i ≡ i + 1
next i = omega arith

module _ {K : Type 0} (test : K → Bool) (ks : List K) (i : ℕ) where
  -- the first from a place on that passes
  abbrev from_here : ℕ → Option ℕ
  from_here n = position_from test n (drop n ks)

  at-key : (k : K) → i < length ks → from_here i ≡ cond (test (get_or ks i k)) (Some i) (position_from test (i + 1) (drop (suc i) ks))
  at-key k l = ap (position_from test i) (drop-cons ks i k l)

  pub passes : (k : K) → i < length ks → test (get_or ks i k) ≡ true → from_here i ≡ Some i
  passes k l h = at-key k l ∙ ap (λ b. cond b (Some i) (position_from test (i + 1) (drop (suc i) ks))) h

  pub fails : (k : K) → i < length ks → test (get_or ks i k) ≡ false → from_here i ≡ from_here (i + 1)
  fails k l h =
      at-key k l
      ∙ ap (λ b. cond b (Some i) (position_from test (i + 1) (drop (suc i) ks))) h
      ∙ ap (λ n. position_from test (i + 1) (drop n ks)) (next i)

  pub none-left : length ks ≤ i → from_here i ≡ None
  none-left l = ap (position_from test i) (drop_all i ks l)

pub left-fails : (a b : Bool) → (a || b) ≡ false → a ≡ false
left-fails false b e = refl
left-fails true b e = e

pub right-fails : (a b : Bool) → (a || b) ≡ false → b ≡ false
right-fails false b e = e
right-fails true b e = absurd (true≢false e)

module _ {K : Type 0} (P : K → Type 0) where
  all-at : (ks : List K) (i : ℕ) (d : K) → i < length ks → AllByRecursion P ks → P (get_or ks i d)
  all-at [] i d l h = absurd (omega arith)
  all-at (k ∷ ks) zero d l h = h.0
  all-at (k ∷ ks) (suc i) d l h = all-at ks i d (omega arith) h.1

  all-pushed : (ks : List K) (k : K) → AllByRecursion P ks → P k → AllByRecursion P (ks ++ k ∷ [])
  all-pushed [] k h p = (p, tt)
  all-pushed (j ∷ ks) k h p = (h.0, all-pushed ks k h.1 p)

  all-removed : (ks : List K) (i : ℕ) → AllByRecursion P ks → AllByRecursion P (remove ks i)
  all-removed [] zero h = tt
  all-removed [] (suc i) h = tt
  all-removed (k ∷ ks) zero h = h.1
  all-removed (k ∷ ks) (suc i) h = (h.0, all-removed ks i h.1)

module _ {K : Type 0} (same : K → K → Bool) where
  -- without one, none stands twice still
  pub distinct-removed : (ks : List K) (i : ℕ) → IsDistinct same ks → IsDistinct same (remove ks i)
  unfolding IsDistinct
  distinct-removed [] zero h = tt
  distinct-removed [] (suc i) h = tt
  distinct-removed (k ∷ ks) zero h = h.1
  distinct-removed (k ∷ ks) (suc i) h = (all-removed (λ j. same k j ≡ false) ks i h.0, distinct-removed ks i h.1)

  module _ (flips : (a b : K) → same a b ≡ same b a) where
    added : (ks : List K) (k : K) → list_any (same k) ks ≡ false → IsDistinct same ks → IsDistinct same (ks ++ k ∷ [])
    unfolding IsDistinct
    added [] k none h = (tt, tt)
    added (j ∷ ks) k none h =
        let apart : same j k ≡ false = flips j k ∙ left-fails (same k j) (list_any (same k) ks) none in
        (all-pushed (λ y. same j y ≡ false) ks k h.0 apart, added ks k (right-fails (same k j) (list_any (same k) ks) none) h.1)

    -- with one that isn't there, none stands twice still
    pub distinct-pushed : (ks : List K) (k : K) → position (same k) ks ≡ None → IsDistinct same ks → IsDistinct same (ks ++ k ∷ [])
    distinct-pushed ks k none h = added ks k (none-passes (same k) ks none) h

    -- a key isn't the same as one before it
    lacks-before : (ks : List K) (i : ℕ) (d : K) → i < length ks → IsDistinct same ks → list_any (same (get_or ks i d)) (take i ks) ≡ false
    unfolding IsDistinct
    lacks-before [] i d l h = absurd (omega arith)
    lacks-before (k ∷ ks) zero d l h = refl
    lacks-before (k ∷ ks) (suc i) d l h =
        ap (λ b. b || list_any (same (get_or ks i d)) (take i ks)) (flips (get_or ks i d) k ∙ all-at (λ y. same k y ≡ false) ks i d (omega arith) h.0)
        ∙ lacks-before ks i d (omega arith) h.1

    -- so each key goes behind those before it
    key-next : (ks : List K) (i : ℕ) (d : K) → i < length ks → IsDistinct same ks → insert_key same (take i ks) (get_or ks i d) ≡ take (i + 1) ks
    key-next ks i d l h =
        ap (λ b. if b then take i ks else take i ks ++ get_or ks i d ∷ []) (lacks-before ks i d l h)
        ∙ sym (take-suc ks i d l)
        ∙ ap (λ n. take n ks) (next i)

-- stored keys are compared as they are
pub alike : (a b : PyDictKey) → eq-value.it a b ≡ is_same_key a b
alike (Number n) (Number m) = refl
alike (Number n) (Text y) = refl
alike (Text x) (Number m) = refl
alike (Text x) (Text y) = refl

-- and either way round
pub turned : (a b : PyDictKey) → is_same_key a b ≡ is_same_key b a
turned (Number n) (Number m) = int_eq_equiv.symm n m
turned (Number n) (Text y) = refl
turned (Text x) (Number m) = refl
turned (Text x) (Text y) = grind arith

-- so that a set inserts them as such
pub inserted : (ks : List PyDictKey) (k : PyDictKey) → insert_key eq-value.it ks k ≡ insert_key is_same_key ks k
inserted ks k = λ i. insert_key (λ a b. alike a b i) ks k

-- a set of the keys in front, with the next one
pub set-next : (set new ks : List PyDictKey) (i : ℕ) (k : PyDictKey) → new ≡ insert_key eq-value.it set (get_or ks i k) → set ≡ take i ks → i < length ks → IsDistinct is_same_key ks → new ≡ take (i + 1) ks
set-next set new ks i k made front l h =
    made
    ∙ inserted set (get_or ks i k)
    ∙ ap (λ s. insert_key is_same_key s (get_or ks i k)) front
    ∙ key-next is_same_key turned ks i k l h
