-- A class, its best base, and so on.
use Rattle.class_model.specs.Below.{ℕ, zero, suc, List, [], length, Option, Some, None}
use Rattle.std.specs.Prelude.{◌≡◌, ◌∷◌}
use Rattle.class_model.specs.Class.{Classes}
use Rattle.class_model.specs.Layout.{base}

-- at most n, each after the first the next of the one before
abbrev pub steps : (ℕ → Option ℕ) → ℕ → Option ℕ → List ℕ
steps next zero c = []
steps next (suc n) None = []
steps next (suc n) (Some c) = c ∷ steps next n (next c)

-- from a class on, if there is one, each the best base of the one before. There are no more than there are classes
abbrev pub chain_from : {K : Type 0} → Classes K → Option ℕ → List ℕ
chain_from t c = steps (base t) (length t) c

-- a class, its best base, the best base of that one, and so on
abbrev pub base_chain : {K : Type 0} → Classes K → ℕ → List ℕ
base_chain t c = chain_from t (Some c)

-- the same in words: it begins with the class, if there is one, each is followed by its next, and the last has none
abbrev pub IsChain : (ℕ → Option ℕ) → Option ℕ → List ℕ → Type 0
IsChain next None [] = Unit {0}
IsChain next None (x ∷ xs) = ⊥
IsChain next (Some c) [] = ⊥
IsChain next (Some c) (x ∷ xs) = (x ≡ c) × IsChain next (next c) xs
