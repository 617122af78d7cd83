-- What a merge of linearisations is.
use Rattle.class_table.specs.Below.{ℕ, false, List, [], Some, None, IsTrue, flat_map, Includes, Distinct, Subsequence, BeginsWith, unique, ranks, is_lexicographic, least_order, IsOrder, IsLeastOrder, breaks_precedence}
use Rattle.std.specs.Prelude.{◌≡◌, ◌∷◌, ◌++◌}

-- all members of some lists
abbrev pub members : List (List ℕ) → List ℕ
members ls = flat_map (λ l. l) ls

abbrev pub heads : List (List ℕ) → List ℕ
heads [] = []
heads ([] ∷ ls) = heads ls
heads ((x ∷ l) ∷ ls) = x ∷ heads ls

-- the lists, and as the last one their heads, each once (at the end they change no rank)
abbrev pub with_heads : List (List ℕ) → List (List ℕ)
with_heads ls = ls ++ unique (heads ls) ∷ []

-- no repeats, nothing but the lists' members, and each list in its order (so that it holds them all)
pub record IsMerge (ls : List (List ℕ)) (xs : List ℕ) : Type 0 where
  pub distinct : Distinct xs
  pub members_only : (x : ℕ) → Includes xs x → Includes (members ls) x
  pub keeps : (l : List ℕ) → Includes ls l → Subsequence l xs

-- of all merges, it has the least list of ranks
pub record IsLeastMerge (ls : List (List ℕ)) (xs : List ℕ) : Type 0 where
  pub merge : IsMerge ls xs
  pub least : (ys : List ℕ) → IsMerge ls ys → IsTrue (is_lexicographic (ranks ls xs) (ranks ls ys))

abbrev pub HasNoMerge : List (List ℕ) → Type 0
HasNoMerge ls = (xs : List ℕ) → IsMerge ls xs → ⊥

-- merges with the same ranks are the same
abbrev pub DifferByRanks : List (List ℕ) → Type 0
DifferByRanks ls = (xs ys : List ℕ) → IsMerge ls xs → IsMerge ls ys → ranks ls xs ≡ ranks ls ys → xs ≡ ys

-- none of the lists is empty or has repeats
abbrev pub AreLines : List (List ℕ) → Type 0
AreLines [] = Unit {0}
AreLines ([] ∷ ls) = ⊥
AreLines ((x ∷ l) ∷ ls) = Distinct (x ∷ l) × AreLines ls

-- one such list for each base, which begins with it
abbrev pub AreLinesOf : List ℕ → List (List ℕ) → Type 0
AreLinesOf [] [] = Unit {0}
AreLinesOf [] (l ∷ ls) = ⊥
AreLinesOf (b ∷ bs) [] = ⊥
AreLinesOf (b ∷ bs) (l ∷ ls) = BeginsWith b l × Distinct l × AreLinesOf bs ls

-- it is in none of the lists
abbrev pub IsApart : ℕ → List (List ℕ) → Type 0
IsApart c ls = (l : List ℕ) → Includes ls l → Includes l c → ⊥

-- it stands before its place, up to which nothing else stands twice
pub record IsFirstRepeat (xs : List ℕ) (x : ℕ) : Type 0 where
  pub before : List ℕ
  pub after : List ℕ
  pub split : xs ≡ before ++ x ∷ after
  pub distinct : Distinct before
  pub again : Includes before x

-- a head stands past the head of a later list
abbrev pub AreOutOfOrder : List (List ℕ) → Type 0
AreOutOfOrder ls = IsTrue (breaks_precedence (heads ls) ls)

-- no head stands so, and still the lists have no merge
pub record IsConflict (ls : List (List ℕ)) : Type 0 where
  pub kept : breaks_precedence (heads ls) ls ≡ false
  pub none : HasNoMerge (with_heads ls)

-- the bases differ, and one stands past the head of a later one's line
pub record IsBrokenPrecedence (bases : List ℕ) (lines : List (List ℕ)) : Type 0 where
  pub distinct : Distinct bases
  pub broken : IsTrue (breaks_precedence bases lines)

-- the bases differ, none stands past the head of a later one's line, and still the lines have no merge
pub record IsOrderConflict (bases : List ℕ) (lines : List (List ℕ)) : Type 0 where
  pub distinct : Distinct bases
  pub conflict : IsConflict lines

-- any class that is in none of the lines has, with these bases, itself and then the list as its least order
pub record IsRest (bases : List ℕ) (lines : List (List ℕ)) (xs : List ℕ) : Type 0 where
  pub computed : (c : ℕ) → IsApart c lines → least_order c bases lines ≡ Some (c ∷ xs)
  pub least : (c : ℕ) → IsApart c lines → IsLeastOrder c bases lines (c ∷ xs)

-- any such class has no order
pub record HasNoOrder (bases : List ℕ) (lines : List (List ℕ)) : Type 0 where
  pub computed : (c : ℕ) → IsApart c lines → least_order c bases lines ≡ None
  pub none : (c : ℕ) → IsApart c lines → (xs : List ℕ) → IsOrder c bases lines xs → ⊥
