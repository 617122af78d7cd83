-- A line tested a member at a time: no merge is made for it.
use Rattle.order_check.specs.Below.{ℕ, Bool, false, cond, eqb, List, [], map, Option, Some, None, stands_past, past, first_free, are_empty}
use Rattle.std.specs.Prelude.{◌&&◌, ◌∷◌, ◌++◌}

-- the lists without what was seen
abbrev pub rest : List (List ℕ) → List ℕ → List (List ℕ)
rest ls seen = map (past seen) ls

abbrev pub is_same : Option ℕ → ℕ → Bool
is_same None x = false
is_same (Some y) x = eqb y x

abbrev pub first_of : List ℕ → Option ℕ
first_of [] = None
first_of (x ∷ xs) = Some x

-- each member is the first free head of what is left when those before it are gone, and nothing is left at the end
abbrev pub is_led : List (List ℕ) → List ℕ → List ℕ → Bool
is_led ls seen [] = are_empty (rest ls seen)
is_led ls seen (x ∷ xs) = is_same (first_free (rest ls seen) (rest ls seen)) x && is_led ls (seen ++ x ∷ []) xs

-- the head of a list, if it stands past no head
abbrev pub free_first : List (List ℕ) → List ℕ → Option ℕ
free_first all [] = None
free_first all (x ∷ l) = cond (stands_past x all) None (Some x)
