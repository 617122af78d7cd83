-- Cycles of the constraints that lists put on their members' order.
use Rattle.order_check.specs.Below.{ℕ, Bool, true, false, eqb, List, [], Option, Some, None, has, Includes, Distinct, IsMerge}
use Rattle.std.specs.Prelude.{◌≡◌, ◌↔◌, ◌≤◌, ◌&&◌, ◌||◌, ◌⊎◌, ◌∷◌}

-- x stands before y at two places of the list
abbrev pub Before : List ℕ → ℕ → ℕ → Type 0
Before [] x y = ⊥
Before (z ∷ l) x y = ((z ≡ x) × Includes l y) ⊎ Before l x y

-- one of the lists has x before y
abbrev pub BeforeIn : List (List ℕ) → ℕ → ℕ → Type 0
BeforeIn [] x y = ⊥
BeforeIn (l ∷ ls) x y = Before l x y ⊎ BeforeIn ls x y

-- from x along the list to the last, each before the next in one of the lists
abbrev pub IsChain : List (List ℕ) → ℕ → List ℕ → ℕ → Type 0
IsChain ls x [] last = BeforeIn ls x last
IsChain ls x (y ∷ ys) last = BeforeIn ls x y × IsChain ls y ys last

-- different members, each before the next in one of the lists, and the last before the first: one alone is a cycle where it stands twice in a list
abbrev pub IsCycle : List (List ℕ) → List ℕ → Type 0
IsCycle ls [] = ⊥
IsCycle ls (x ∷ xs) = Distinct (x ∷ xs) × IsChain ls x xs x

abbrev pub HasNoCycle : List (List ℕ) → Type 0
HasNoCycle ls = (c : List ℕ) → IsCycle ls c → ⊥

abbrev pub HasMerge : List (List ℕ) → Type 0
HasMerge ls = (xs : List ℕ) × IsMerge ls xs

-- the fact: lists have a merge exactly where they have no cycle
abbrev pub IsMergedOrCyclic : List (List ℕ) → Type 0
IsMergedOrCyclic ls = HasMerge ls ↔ HasNoCycle ls

abbrev pub BeginsWithLeast : List ℕ → Type 0
BeginsWithLeast [] = ⊥
BeginsWithLeast (x ∷ xs) = (y : ℕ) → Includes xs y → x ≤ y

-- an answer of whether lists have a cycle: none where they have none, else a cycle that begins with its least member
abbrev pub IsAnswer : List (List ℕ) → Option (List ℕ) → Type 0
IsAnswer ls None = HasNoCycle ls
IsAnswer ls (Some c) = IsCycle ls c × BeginsWithLeast c

-- the tests

abbrev pub is_before : ℕ → ℕ → List ℕ → Bool
is_before x y [] = false
is_before x y (z ∷ l) = (eqb z x && has l y) || is_before x y l

abbrev pub is_before_in : ℕ → ℕ → List (List ℕ) → Bool
is_before_in x y [] = false
is_before_in x y (l ∷ ls) = is_before x y l || is_before_in x y ls

-- the head, or what is given where there is none
abbrev pub first_or : ℕ → List ℕ → ℕ
first_or x [] = x
first_or x (y ∷ ys) = y

abbrev pub are_chained : List (List ℕ) → List ℕ → ℕ → Bool
are_chained ls [] last = true
are_chained ls (x ∷ xs) last = is_before_in x (first_or last xs) ls && are_chained ls xs last
