-- The merge, a member at a time. No public contract names these.
use Rattle.class_table.specs.Below.{ℕ, zero, suc, Bool, true, false, not, cond, Option, Some, None, option_map, List, [], map, filter, length, has, without, stands_past}
use Rattle.std.specs.Prelude.{◌∷◌, ◌++◌}
use Rattle.class_table.specs.MroMerge.Merge.{members}

-- the first head that stands past no head
abbrev pub first_free : List (List ℕ) → List (List ℕ) → Option ℕ
first_free all [] = None
first_free all ([] ∷ ls) = first_free all ls
first_free all ((x ∷ l) ∷ ls) = cond (stands_past x all) (first_free all ls) (Some x)

abbrev pub are_empty : List (List ℕ) → Bool
are_empty [] = true
are_empty ([] ∷ ls) = are_empty ls
are_empty ((x ∷ l) ∷ ls) = false

abbrev pub struck : ℕ → List (List ℕ) → List (List ℕ)
struck x ls = map (without x) ls

abbrev pub after : (ℕ → Option (List ℕ)) → Option ℕ → Option (List ℕ)
after go None = None
after go (Some x) = option_map (λ xs. x ∷ xs) (go x)

-- the merge of lists with at most n members together
unfoldable pub merge : ℕ → List (List ℕ) → Option (List ℕ)
merge zero ls = cond (are_empty ls) (Some []) None
merge (suc n) ls = cond (are_empty ls) (Some []) (after (λ x. merge n (struck x ls)) (first_free ls ls))

-- the merge, with as many steps as there are places
unfoldable pub merged : List (List ℕ) → Option (List ℕ)
merged ls = merge (length (members ls)) ls

-- what the first list doesn't hold
abbrev pub past : List ℕ → List ℕ → List ℕ
past seen xs = filter (λ x. not (has seen x)) xs

-- the first that was seen, or that stands before its place
abbrev pub repeat_past : List ℕ → List ℕ → Option ℕ
repeat_past seen [] = None
repeat_past seen (x ∷ xs) = cond (has seen x) (Some x) (repeat_past (seen ++ x ∷ []) xs)
