-- The order of lists of ranks: a list is before itself, what is before is passed on, and of two lists one is before the other.
use Rattle.class_model.proofs.Below.{ℕ, Bool, true, false, cond, List, [], Option, Some, None, inl, inr, refl, sym, ap, ◌∙◌, arith, ltb, ltb-true, lt-ltb, eqb-true, eq-eqb, or_cases, or_left, or_right, and_parts, and_from, cases_order, both_ways, is_lexicographic, lesser, least, Includes}
use Rattle.std.proofs.Common.{◌≡◌, ◌<◌, ◌∷◌, ◌⊎◌}
use Rattle.std.specs.Prelude.{◌&&◌, eqb}

-- the head is less, or the heads are the same and the rest is before
Ahead : ℕ → List ℕ → ℕ → List ℕ → Type 0
Ahead x xs y ys = (x < y) ⊎ ((x ≡ y) × (is_lexicographic xs ys ≡ true))

to_ahead : (x y : ℕ) (xs ys : List ℕ) → is_lexicographic (x ∷ xs) (y ∷ ys) ≡ true → Ahead x xs y ys
unfolding Ahead
to_ahead x y xs ys e =
    elim (or_cases (ltb x y) (eqb x y && is_lexicographic xs ys) e) [ inl l ↦ inl (ltb-true x y l) | inr b ↦ let p = and_parts (eqb x y) (is_lexicographic xs ys) b in inr (eqb-true x y p.0, p.1) ]

from_ahead : (x y : ℕ) (xs ys : List ℕ) → Ahead x xs y ys → is_lexicographic (x ∷ xs) (y ∷ ys) ≡ true
unfolding Ahead
from_ahead x y xs ys (inl l) = or_left (ltb x y) (eqb x y && is_lexicographic xs ys) (lt-ltb x y l)
from_ahead x y xs ys (inr p) = or_right (ltb x y) (eqb x y && is_lexicographic xs ys) (and_from (eqb x y) (is_lexicographic xs ys) (eq-eqb x y p.0) p.1)

itself : (xs : List ℕ) → is_lexicographic xs xs ≡ true
unfolding Ahead
itself [] = refl
itself (x ∷ xs) = from_ahead x x xs xs (inr (refl, itself xs))

passed : (xs ys zs : List ℕ) → is_lexicographic xs ys ≡ true → is_lexicographic ys zs ≡ true → is_lexicographic xs zs ≡ true
unfolding Ahead
passed [] ys zs e f = refl
passed (x ∷ xs) [] zs e f = cc
passed (x ∷ xs) (y ∷ ys) [] e f = f
passed (x ∷ xs) (y ∷ ys) (z ∷ zs) e f = from_ahead x z xs zs (join (to_ahead x y xs ys e) (to_ahead y z ys zs f) (passed xs ys zs))
  where
    join : (x < y) ⊎ ((x ≡ y) × (is_lexicographic xs ys ≡ true)) → (y < z) ⊎ ((y ≡ z) × (is_lexicographic ys zs ≡ true)) → (is_lexicographic xs ys ≡ true → is_lexicographic ys zs ≡ true → is_lexicographic xs zs ≡ true) → (x < z) ⊎ ((x ≡ z) × (is_lexicographic xs zs ≡ true))
    join (inl a) (inl b) rest = inl (omega arith)
    join (inl a) (inr b) rest = inl (omega (arith, b.0))
    join (inr a) (inl b) rest = inl (omega (arith, a.0))
    join (inr a) (inr b) rest = inr (a.0 ∙ b.0, rest a.1 b.1)

pub other_way : (xs ys : List ℕ) → is_lexicographic xs ys ≡ false → is_lexicographic ys xs ≡ true
unfolding Ahead
other_way [] ys e = cc
other_way (x ∷ xs) [] e = refl
other_way (x ∷ xs) (y ∷ ys) e = from_ahead y x ys xs (turn (is_lexicographic xs ys) refl (cases_order x y) (other_way xs ys))
  where
    turn : (b : Bool) → is_lexicographic xs ys ≡ b → (x ≡ y) ⊎ ((x < y) ⊎ (y < x)) → (is_lexicographic xs ys ≡ false → is_lexicographic ys xs ≡ true) → (y < x) ⊎ ((y ≡ x) × (is_lexicographic ys xs ≡ true))
    turn b f (inr (inr l)) rest = inl l
    turn b f (inr (inl l)) rest = absurd (both_ways _ e (from_ahead x y xs ys (inl l)))
    turn true f (inl i) rest = absurd (both_ways _ e (from_ahead x y xs ys (inr (i, f))))
    turn false f (inl i) rest = inr (sym i, rest f)

-- one of the keys stands before all of them
module _ (key : List ℕ → List ℕ) where
  IsFirst : List ℕ → List (List ℕ) → Type 0
  IsFirst z all = (y : List ℕ) → Includes all y → is_lexicographic (key z) (key y) ≡ true

  -- as the least of none, of the first alone, or of the first and the least of the others
  step : (a : List ℕ) (all : List (List ℕ)) (o : Option (List ℕ)) → (o ≡ None → (y : List ℕ) → Includes all y → ⊥) → ((w : List ℕ) → o ≡ Some w → IsFirst w all) → (z : List ℕ) → lesser key a o ≡ Some z → IsFirst z (a ∷ all)
  unfolding IsFirst
  step a all None none more z e y (inl i) = let s : z ≡ a = cc in ap (λ w. is_lexicographic (key z) (key w)) (sym i ∙ sym s) ∙ itself (key z)
  step a all None none more z e y (inr h) = absurd (none refl y h)
  step a all (Some w) none more z e y h = pick (is_lexicographic (key a) (key w)) refl h (cc)
    where
      pick : (b : Bool) → is_lexicographic (key a) (key w) ≡ b → Includes (a ∷ all) y → z ≡ cond b a w → is_lexicographic (key z) (key y) ≡ true
      pick true t (inl i) s = ap (λ v. is_lexicographic (key z) (key v)) (sym i ∙ sym s) ∙ itself (key z)
      pick true t (inr k) s = ap (λ v. is_lexicographic (key v) (key y)) s ∙ passed (key a) (key w) (key y) t (more w refl y k)
      pick false t (inl i) s = ap (λ v. is_lexicographic (key v) (key y)) s ∙ ap (λ v. is_lexicographic (key w) (key v)) (sym i) ∙ other_way (key a) (key w) t
      pick false t (inr k) s = ap (λ v. is_lexicographic (key v) (key y)) s ∙ more w refl y k

  pub least-none : (all : List (List ℕ)) → least key all ≡ None → (y : List ℕ) → Includes all y → ⊥
  least-none [] e y h = h
  least-none (a ∷ all) e y h = go (least key all) e
    where
      go : (o : Option (List ℕ)) → lesser key a o ≡ None → ⊥
      go None e = cc
      go (Some w) e = cc

  pub least-first : (all : List (List ℕ)) (z : List ℕ) → least key all ≡ Some z → (y : List ℕ) → Includes all y → is_lexicographic (key z) (key y) ≡ true
  unfolding IsFirst
  least-first [] z e y h = absurd h
  least-first (a ∷ all) z e y h = step a all (least key all) (least-none all) (least-first all) z e y h
