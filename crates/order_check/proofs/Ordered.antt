-- Lists with a merge have no cycle.
use Rattle.order_check.proofs.Below.{ℕ, List, [], inl, inr, refl, sym, ◌∙◌, Includes, Distinct, Subsequence, IsMerge, Before, BeforeIn, IsChain, IsCycle, HasMerge, HasNoCycle, Includes-equal, Subsequence-holds}
use Rattle.std.proofs.Common.{◌∷◌}

pub before-kept : (l xs : List ℕ) (x y : ℕ) → Subsequence l xs → Before l x y → Before xs x y
before-kept [] xs x y s b = absurd b
before-kept (z ∷ l) [] x y s b = absurd s
before-kept (z ∷ l) (w ∷ xs) x y (inl p) (inl q) = inl (sym p.0 ∙ q.0, Subsequence-holds l xs y p.1 q.1)
before-kept (z ∷ l) (w ∷ xs) x y (inl p) (inr b) = inr (before-kept l xs x y p.1 b)
before-kept (z ∷ l) (w ∷ xs) x y (inr s) b = inr (before-kept (z ∷ l) xs x y s b)

before-past : (xs : List ℕ) (x y : ℕ) → Before xs x y → Includes xs y
before-past [] x y b = absurd b
before-past (w ∷ xs) x y (inl p) = inr p.1
before-past (w ∷ xs) x y (inr b) = inr (before-past xs x y b)

before-on : (xs : List ℕ) (x y z : ℕ) → Distinct xs → Before xs x y → Before xs y z → Before xs x z
before-on [] x y z d a b = absurd a
before-on (w ∷ xs) x y z d (inl p) (inl q) = absurd (d.0 (Includes-equal xs y w (sym q.0) p.1))
before-on (w ∷ xs) x y z d (inl p) (inr b) = inl (p.0, before-past xs y z b)
before-on (w ∷ xs) x y z d (inr a) (inl q) = absurd (d.0 (Includes-equal xs y w (sym q.0) (before-past xs x y a)))
before-on (w ∷ xs) x y z d (inr a) (inr b) = inr (before-on xs x y z d.1 a b)

before-itself : (xs : List ℕ) (x : ℕ) → Distinct xs → Before xs x x → ⊥
before-itself [] x d b = b
before-itself (w ∷ xs) x d (inl p) = d.0 (Includes-equal xs x w (sym p.0) p.1)
before-itself (w ∷ xs) x d (inr b) = before-itself xs x d.1 b

before-in-kept : (ls : List (List ℕ)) (xs : List ℕ) (x y : ℕ) → ((l : List ℕ) → Includes ls l → Subsequence l xs) → BeforeIn ls x y → Before xs x y
before-in-kept [] xs x y k b = absurd b
before-in-kept (l ∷ ls) xs x y k (inl a) = before-kept l xs x y (k l (inl refl)) a
before-in-kept (l ∷ ls) xs x y k (inr b) = before-in-kept ls xs x y (λ m h. k m (inr h)) b

chain-kept : (ls : List (List ℕ)) (xs : List ℕ) (x : ℕ) (ys : List ℕ) (z : ℕ) → IsMerge ls xs → IsChain ls x ys z → Before xs x z
chain-kept ls xs x [] z m c = before-in-kept ls xs x z m.keeps c
chain-kept ls xs x (y ∷ ys) z m c = before-on xs x y z m.distinct (before-in-kept ls xs x y m.keeps c.0) (chain-kept ls xs y ys z m c.1)

pub merge-cycle : (ls : List (List ℕ)) (xs c : List ℕ) → IsMerge ls xs → IsCycle ls c → ⊥
merge-cycle ls xs [] m c = c
merge-cycle ls xs (x ∷ ys) m c = before-itself xs x m.distinct (chain-kept ls xs x ys x m c.1)

pub merge-no_cycle : (ls : List (List ℕ)) → HasMerge ls → HasNoCycle ls
merge-no_cycle ls m c h = merge-cycle ls m.0 c m.1 h
