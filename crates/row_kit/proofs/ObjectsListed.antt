-- The objects that stand for classes.
use Rattle.row_kit.proofs.Below.{ℕ, zero, suc, List, [], length, get_or, map, take, inl, inr, refl, ap, arith, PyTypeRef, Includes, numbers, ref}
use Rattle.std.proofs.Common.{◌≡◌, ◌+◌, ◌<◌, ◌≤◌, ◌∷◌, ◌++◌}

-- all
pub nodes-end : (cs : List PyTypeRef) (i : ℕ) → length cs ≤ i → map (λ c. ref c.0) (take i cs) ≡ map ref (numbers cs)
nodes-end [] zero l = refl
nodes-end [] (suc i) l = refl
nodes-end (c ∷ cs) zero l = absurd (omega arith)
nodes-end (c ∷ cs) (suc i) l = ap (λ rs. ref c.0 ∷ rs) (nodes-end cs i (omega arith))

-- one more
pub nodes-next : (cs : List PyTypeRef) (i : ℕ) (d : PyTypeRef) → i < length cs → map (λ c. ref c.0) (take i cs) ++ ref (get_or cs i d).0 ∷ [] ≡ map (λ c. ref c.0) (take (suc i) cs)
nodes-next [] i d l = absurd (omega arith)
nodes-next (c ∷ cs) zero d l = refl
nodes-next (c ∷ cs) (suc i) d l = ap (λ rs. ref c.0 ∷ rs) (nodes-next cs i d (omega arith))

pub class-among : (cs : List PyTypeRef) (i : ℕ) (d : PyTypeRef) → i < length cs → Includes (numbers cs) (get_or cs i d).0
class-among [] i d l = absurd (omega arith)
class-among (c ∷ cs) zero d l = inl refl
class-among (c ∷ cs) (suc i) d l = inr (class-among cs i d (omega arith))
