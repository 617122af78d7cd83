-- The orders of a class, and what they have to do with cycles.
use Rattle.order_check.specs.Below.{ℕ, List, [], Includes, IsOrder, IsApart}
use Rattle.std.specs.Prelude.{◌≡◌, ◌↔◌, ◌∷◌, ◌++◌}
use Rattle.order_check.specs.Cycle.{HasNoCycle}

-- each base is in one of the lines
abbrev pub AreIn : List ℕ → List (List ℕ) → Type 0
AreIn bases lines = (b : ℕ) → Includes bases b → (l : List ℕ) × Includes lines l × Includes l b

-- the lists of a class: its bases' linearisations in order, and the list of bases
abbrev pub lists_of : List ℕ → List (List ℕ) → List (List ℕ)
lists_of bases lines = lines ++ bases ∷ []

abbrev pub HasOrder : ℕ → List ℕ → List (List ℕ) → Type 0
HasOrder c bases lines = (xs : List ℕ) × IsOrder c bases lines xs

-- the fact for classes: a class whose lists these are, and that stands in none of them itself, has an order exactly where they have no cycle
abbrev pub IsOrderedOrCyclic : List (List ℕ) → Type 0
IsOrderedOrCyclic ls = (c : ℕ) (bases : List ℕ) (lines : List (List ℕ)) → ls ≡ lists_of bases lines → IsApart c lines → AreIn bases lines → HasOrder c bases lines ↔ HasNoCycle ls
