-- The linearisation of a class: of all its consistent orders the least, by the ranks of its members.
use Rattle.class_model.specs.Below.{ℕ, zero, suc, Bool, true, false, cond, not, eqb, ltb, List, [], map, filter, length, Option, Some, None, IsTrue, option_map, option_and_then, flat_map}
use Rattle.std.specs.Prelude.{◌≡◌, ◌&&◌, ◌||◌, ◌⊎◌, ◌∷◌}

-- tests on lists of classes

abbrev pub has : List ℕ → ℕ → Bool
has [] x = false
has (y ∷ ys) x = eqb y x || has ys x

abbrev pub is_within : List ℕ → List ℕ → Bool
is_within [] ys = true
is_within (x ∷ xs) ys = has ys x && is_within xs ys

abbrev pub is_distinct : List ℕ → Bool
is_distinct [] = true
is_distinct (x ∷ xs) = not (has xs x) && is_distinct xs

-- the first list is what is left of the second when some of it is struck out
abbrev pub is_subsequence : List ℕ → List ℕ → Bool
is_subsequence [] ys = true
is_subsequence (x ∷ xs) [] = false
is_subsequence (x ∷ xs) (y ∷ ys) = cond (eqb x y) (is_subsequence xs ys) (is_subsequence (x ∷ xs) ys)

abbrev pub are_subsequences : List (List ℕ) → List ℕ → Bool
are_subsequences [] ys = true
are_subsequences (l ∷ ls) ys = is_subsequence l ys && are_subsequences ls ys

abbrev pub begins_with : ℕ → List ℕ → Bool
begins_with c [] = false
begins_with c (x ∷ xs) = eqb x c

-- the members of a class's orders: itself, and what its bases' linearisations hold
abbrev pub members_of : ℕ → List (List ℕ) → List ℕ
members_of c lines = c ∷ flat_map (λ l. l) lines

-- an order of a class begins with it, has no repeats and just the members, and keeps the list of bases and the linearisation of each
abbrev pub is_order : ℕ → List ℕ → List (List ℕ) → List ℕ → Bool
is_order c bases lines xs =
    begins_with c xs && (is_distinct xs && (is_within xs (members_of c lines) && (is_within (members_of c lines) xs && are_subsequences (bases ∷ lines) xs)))

-- a member's rank: the place of the first base whose linearisation holds it
abbrev pub rank : List (List ℕ) → ℕ → ℕ
rank [] x = 0
rank (l ∷ ls) x = cond (has l x) 0 (suc (rank ls x))

abbrev pub ranks : List (List ℕ) → List ℕ → List ℕ
ranks lines xs = map (rank lines) xs

-- the first list comes before the second in the dictionary, or is the same
abbrev pub is_lexicographic : List ℕ → List ℕ → Bool
is_lexicographic [] ys = true
is_lexicographic (x ∷ xs) [] = false
is_lexicographic (x ∷ xs) (y ∷ ys) = ltb x y || (eqb x y && is_lexicographic xs ys)

abbrev pub without : ℕ → List ℕ → List ℕ
without x ms = filter (λ y. not (eqb y x)) ms

abbrev pub unique : List ℕ → List ℕ
unique [] = []
unique (x ∷ xs) = x ∷ without x (unique xs)

-- all arrangements of at most n members
unfoldable pub arrangements : ℕ → List ℕ → List (List ℕ)
arrangements zero ms = [] ∷ []
arrangements (suc n) [] = [] ∷ []
arrangements (suc n) (m ∷ ms) = flat_map (λ x. map (λ xs. x ∷ xs) (arrangements n (without x (m ∷ ms)))) (m ∷ ms)

unfoldable pub all_arrangements : List ℕ → List (List ℕ)
all_arrangements ms = arrangements (length (unique ms)) (unique ms)

abbrev pub lesser : (List ℕ → List ℕ) → List ℕ → Option (List ℕ) → Option (List ℕ)
lesser key x None = Some x
lesser key x (Some y) = Some (cond (is_lexicographic (key x) (key y)) x y)

-- the first of those whose key is the least
abbrev pub least : (List ℕ → List ℕ) → List (List ℕ) → Option (List ℕ)
least key [] = None
least key (x ∷ xs) = lesser key x (least key xs)

-- of all arrangements that are orders, the one whose list of ranks is lexicographically least
unfoldable pub least_order : ℕ → List ℕ → List (List ℕ) → Option (List ℕ)
least_order c bases lines = least (ranks lines) (filter (is_order c bases lines) (all_arrangements (members_of c lines)))

abbrev pub all_some : {A : Type 0} → List (Option A) → Option (List A)
all_some [] = Some []
all_some (None ∷ os) = None
all_some (Some x ∷ os) = option_map (λ xs. x ∷ xs) (all_some os)

-- the linearisation of a class whose bases go less than n deep, given each class's bases
unfoldable pub linear : (ℕ → Option (List ℕ)) → ℕ → ℕ → Option (List ℕ)
linear bases zero c = None
linear bases (suc n) c = option_and_then (λ bs. option_and_then (least_order c bs) (all_some (map (linear bases n) bs))) (bases c)

-- the same in words

abbrev pub Includes : {A : Type 0} → List A → A → Type 0
Includes [] x = ⊥
Includes (y ∷ ys) x = (y ≡ x) ⊎ Includes ys x

abbrev pub Distinct : List ℕ → Type 0
Distinct [] = Unit {0}
Distinct (x ∷ xs) = (Includes xs x → ⊥) × Distinct xs

abbrev pub Subsequence : List ℕ → List ℕ → Type 0
Subsequence [] ys = Unit {0}
Subsequence (x ∷ xs) [] = ⊥
Subsequence (x ∷ xs) (y ∷ ys) = ((x ≡ y) × Subsequence xs ys) ⊎ Subsequence (x ∷ xs) ys

abbrev pub BeginsWith : ℕ → List ℕ → Type 0
BeginsWith c [] = ⊥
BeginsWith c (x ∷ xs) = x ≡ c

pub record IsOrder (c : ℕ) (bases : List ℕ) (lines : List (List ℕ)) (xs : List ℕ) : Type 0 where
  pub begins : BeginsWith c xs
  pub distinct : Distinct xs
  pub members_only : (x : ℕ) → Includes xs x → Includes (members_of c lines) x
  pub all_members : (x : ℕ) → Includes (members_of c lines) x → Includes xs x
  pub keeps_bases : Subsequence bases xs
  pub keeps : (l : List ℕ) → Includes lines l → Subsequence l xs

-- of all orders, it has the least list of ranks
pub record IsLeastOrder (c : ℕ) (bases : List ℕ) (lines : List (List ℕ)) (xs : List ℕ) : Type 0 where
  pub order : IsOrder c bases lines xs
  pub least : (ys : List ℕ) → IsOrder c bases lines ys → IsTrue (is_lexicographic (ranks lines xs) (ranks lines ys))
