-- The cycle that is given where lists have no merge.
use Rattle.order_check.specs.Below.{ℕ, zero, suc, cond, eqb, ltb, List, [], length, Option, Some, None, has, members, heads, first_free, struck}
use Rattle.std.specs.Prelude.{◌∷◌, ◌++◌}

abbrev pub left_by : (ℕ → List (List ℕ)) → List (List ℕ) → Option ℕ → List (List ℕ)
left_by go ls None = ls
left_by go ls (Some x) = go x

-- what is left of the lists when the merge can't go on, after at most n members
unfoldable pub left_after : ℕ → List (List ℕ) → List (List ℕ)
left_after zero ls = ls
left_after (suc n) ls = left_by (λ x. left_after n (struck x ls)) ls (first_free ls ls)

unfoldable pub left : List (List ℕ) → List (List ℕ)
left ls = left_after (length (members ls)) ls

-- the head of the first list that holds the member past its head (and where none does, the member)
abbrev pub holder : ℕ → List (List ℕ) → ℕ
holder x [] = x
holder x ([] ∷ ls) = holder x ls
holder x ((y ∷ l) ∷ ls) = cond (has l x) y (holder x ls)

-- the list up to the first place of a member
abbrev pub up_to : ℕ → List ℕ → List ℕ
up_to x [] = []
up_to x (y ∷ ys) = y ∷ cond (eqb y x) [] (up_to x ys)

-- from x go to its holder, again and again, until one comes back, in at most n steps: of those that were seen, latest first, the ones from its first coming on
unfoldable pub walk : ℕ → List (List ℕ) → List ℕ → ℕ → List ℕ
walk zero ls seen x = up_to x seen
walk (suc n) ls seen x = cond (has seen x) (up_to x seen) (walk n ls (x ∷ seen) (holder x ls))

abbrev pub least_from : ℕ → List ℕ → ℕ
least_from m [] = m
least_from m (x ∷ xs) = least_from (cond (ltb x m) x m) xs

abbrev pub turned_from : ℕ → List ℕ → List ℕ → List ℕ
turned_from m front [] = front
turned_from m front (y ∷ ys) = cond (eqb y m) ((y ∷ ys) ++ front) (turned_from m (front ++ y ∷ []) ys)

-- turned, so that the least comes first
abbrev pub turned : List ℕ → List ℕ
turned [] = []
turned (x ∷ xs) = turned_from (least_from x xs) [] (x ∷ xs)

abbrev pub found_from : List (List ℕ) → List ℕ → Option (List ℕ)
found_from ls [] = None
found_from ls (x ∷ xs) = Some (turned (walk (length ls) ls [] x))

-- the cycle from the head of the first list that is left and not empty
abbrev pub found_in : List (List ℕ) → Option (List ℕ)
found_in ls = found_from ls (heads ls)

unfoldable pub cycle_of : List (List ℕ) → Option (List ℕ)
cycle_of ls = found_in (left ls)
