-- Lists of keys, as the code holds them.
use Rattle.order_check.specs.Below.{ℕ, List, map, Vec}

abbrev pub rows : List (Vec ℕ) → List (List ℕ)
rows lists = map (λ v. v.items) lists
