-- Classes by their numbers.
use Rattle.class_table.specs.Below.{ℕ, List, map, Option, option_map, Vec, PyTypeRef}

abbrev pub numbers : List PyTypeRef → List ℕ
numbers cs = map (λ c. c.0) cs

abbrev pub rows : List (Vec PyTypeRef) → List (List ℕ)
rows lists = map (λ v. numbers v.items) lists

-- the number of a class, where there is one
abbrev pub number_of : Option PyTypeRef → Option ℕ
number_of c = option_map (λ r. r.0) c
