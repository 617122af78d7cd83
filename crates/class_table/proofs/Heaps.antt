-- The bases of a class that is made, as the code reads them.
use Rattle.class_table.proofs.Below.{ℕ, zero, suc, true, List, [], length, get_or, take, drop, Some, refl, sym, ap, arith, PyTypeRef, PyStrInterned, Classes, is_class, is_sub, solid, best_of, best-one_some, numbers, IsBelow, IsBest, AreThere}
use Rattle.std.proofs.Common.{◌≡◌, ◌<◌, ◌≤◌, ◌-◌, ◌∷◌}

-- where there is a best base, there are bases
pub below-best : (t : Classes PyStrInterned) (n : ℕ) (bs : List ℕ) (b : ℕ) → AreThere t bs → best_of t bs ≡ Some b → IsBelow t n bs
below-best t n [] b l e = cc
below-best t n (c ∷ bs) b l e = l

pub is-best : (t : Classes PyStrInterned) (bs : List ℕ) (b : PyTypeRef) → best_of t bs ≡ Some b.0 → IsBest t bs (Some b)
is-best t [] b e = cc
is-best t (c ∷ bs) b e = e

take-whole : {A : Type 0} (xs : List A) (n : ℕ) → length xs ≤ n → take n xs ≡ xs
take-whole [] zero h = refl
take-whole [] (suc n) h = refl
take-whole (x ∷ xs) zero h = absurd (omega arith)
take-whole (x ∷ xs) (suc n) h = ap (λ ys. x ∷ ys) (take-whole xs n (omega arith))

-- the first, and the others
pub first-others : (bases : List PyTypeRef) → 1 ≤ length bases → numbers bases ≡ (get_or bases 0 (record { 0 = 0 })).0 ∷ numbers (take (length bases - 1) (drop 1 bases))
first-others [] h = absurd (omega arith)
first-others (b ∷ bases) h = ap (λ ys. b.0 ∷ numbers ys) (sym (take-whole bases (suc (length bases) - 1) (omega arith)))

pub fewer-others : (bases : List PyTypeRef) → 1 ≤ length bases → length (take (length bases - 1) (drop 1 bases)) < length bases
fewer-others [] h = absurd (omega arith)
fewer-others (b ∷ bases) h = let e = ap (λ (ys : List PyTypeRef). length ys) (take-whole bases (suc (length bases) - 1) (omega arith)) in omega (arith, e)

pub none-of : (bases : List PyTypeRef) → length bases < 1 → numbers bases ≡ []
none-of [] h = refl
none-of (b ∷ bases) h = absurd (omega arith)

-- the only one of at most one is the best
pub only-best : (t : Classes PyStrInterned) (solids : (c : ℕ) → is_class t c ≡ true → (d : ℕ) × (solid t c ≡ Some d) × (is_sub t d d ≡ true)) (bases : List PyTypeRef) → length bases ≤ 1 → AreThere t (numbers bases) → 1 ≤ length bases → IsBest t (numbers bases) (Some (get_or bases 0 (record { 0 = 0 })))
only-best t solids [] l h m = absurd (omega arith)
only-best t solids (b ∷ []) l h m = let s = solids b.0 h.0 in best-one_some t (solid t) b.0 s.0 s.1 s.2
only-best t solids (b ∷ c ∷ bases) l h m = absurd (omega arith)
