-- The numbers of classes: they ascend, with gaps between.
use Rattle.class_model.specs.Below.{ℕ, suc, Bool, true, cond, nat_lt, leb, List, [], map, Some, slice_get}
use Rattle.std.specs.Prelude.{◌≡◌, ◌<◌, ◌&&◌, ◌∷◌}
use Rattle.class_model.specs.Class.{Class, Classes}

abbrev pub numbers_of : {K : Type 0} → Classes K → List ℕ
numbers_of t = map (λ k. k.number) t

-- each is less than the next, and none is below n
abbrev pub ascend_from : ℕ → List ℕ → Bool
ascend_from n [] = true
ascend_from n (x ∷ xs) = leb n x && ascend_from (suc x) xs

-- each class's number is less than the next one's
abbrev pub is_ascending : {K : Type 0} → Classes K → Bool
is_ascending t = ascend_from 0 (numbers_of t)

-- the same in words
abbrev pub Ascending : {K : Type 0} → Classes K → Type 0
Ascending {K = K} t = (i j : ℕ) (a b : Class K) → i < j → slice_get t i ≡ Some a → slice_get t j ≡ Some b → a.number < b.number

-- the least number that is greater than all of some numbers
abbrev pub past_all : List ℕ → ℕ
past_all [] = 0
past_all (x ∷ xs) = cond (nat_lt x (past_all xs)) (past_all xs) (suc x)

-- the least number that a new class can have
abbrev pub limit : {K : Type 0} → Classes K → ℕ
limit t = past_all (numbers_of t)
