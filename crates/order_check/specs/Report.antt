-- What a report tells of a hierarchy, and when it is right.
use Rattle.order_check.specs.Below.{ℕ, suc, cond, List, [], map, Option, Some, None, is_none, slice_get}
use Rattle.std.specs.Prelude.{◌≡◌, ◌<◌, ◌∷◌}
use Rattle.order_check.specs.declared.hierarchy.Entry.{Entry}
use Rattle.order_check.specs.declared.report.Pair.{Pair}
use Rattle.order_check.specs.declared.report.Line.{Line}
use Rattle.order_check.specs.declared.report.Line.TheVariants.{Order, Cycle, Without}
use Rattle.order_check.specs.Cycle.{is_before, first_or, IsCycle, BeginsWithLeast}
use Rattle.order_check.specs.Found.{cycle_of}
use Rattle.order_check.specs.Hierarchy.{order_in}
use Rattle.order_check.specs.Orders.{lists_of}

-- the first base that has no order
abbrev pub first_without : (ℕ → Option (List ℕ)) → List ℕ → Option ℕ
first_without order [] = None
first_without order (b ∷ bs) = cond (is_none (order b)) (Some b) (first_without order bs)

-- the first list that has x before y: by its base, and none where it is the list of bases, which comes last
abbrev pub list_with : ℕ → ℕ → List ℕ → List (List ℕ) → Option ℕ
list_with x y [] ls = None
list_with x y (b ∷ bs) [] = None
list_with x y (b ∷ bs) (l ∷ ls) = cond (is_before x y l) (Some b) (list_with x y bs ls)

abbrev pub pair_in : List ℕ → List (List ℕ) → ℕ → ℕ → Pair
pair_in bases ls x y = record { first = x; second = y; list = list_with x y bases ls }

-- each with the next, and the last with the given one
abbrev pub pairs_to : List ℕ → List (List ℕ) → ℕ → List ℕ → List Pair
pairs_to bases ls last [] = []
pairs_to bases ls last (x ∷ xs) = pair_in bases ls x (first_or last xs) ∷ pairs_to bases ls last xs

-- the pairs of a cycle: each with the next, and the last with the first
abbrev pub pairs_of : List ℕ → List (List ℕ) → List ℕ → List Pair
pairs_of bases ls cycle = pairs_to bases ls (first_or 0 cycle) cycle

-- the pairs of a cycle of some lists, from its least class on
pub record TellsCycle (bases : List ℕ) (ls : List (List ℕ)) (pairs : List Pair) : Type 0 where
  pub cycle : List ℕ
  pub is_cycle : IsCycle ls cycle
  pub least : BeginsWithLeast cycle
  pub told : pairs ≡ pairs_of bases ls cycle

-- all bases of the class have an order, and this is a cycle of its lists (so it has none)
pub record IsCycleLine (h : List Entry) (e : Entry) (pairs : List Pair) : Type 0 where
  pub lines : List (List ℕ)
  pub of_bases : map (order_in h) e.bases.items ≡ map Some lines
  pub tells : TellsCycle e.bases.items (lists_of e.bases.items lines) pairs

-- what a line tells of a class is so
abbrev pub IsLine : List Entry → Entry → Line → Type 0
IsLine h e (Order line) = order_in h e.key ≡ Some line.items
IsLine h e (Cycle pairs) = IsCycleLine h e pairs.items
IsLine h e (Without b) = first_without (order_in h) e.bases.items ≡ Some b

-- a class and its line stand on both sides, with this between them, or on neither
abbrev pub OnBoth : (Entry → Line → Type 0) → Option Entry → Option Line → Type 0
OnBoth P None None = Unit {0}
OnBoth P None (Some line) = ⊥
OnBoth P (Some e) None = ⊥
OnBoth P (Some e) (Some line) = P e line

-- the line at a place, counting from 0, is that of the class at the next place: the first class has none
abbrev pub IsRightAt : List Entry → List Line → ℕ → Type 0
IsRightAt h lines k = OnBoth (IsLine h) (slice_get h (suc k)) (slice_get lines k)

abbrev pub IsReport : List Entry → List Line → Type 0
IsReport h lines = (k : ℕ) → IsRightAt h lines k

-- the first line that is not right, missing and surplus ones too, counting from 1
pub record IsFirstWrong (h : List Entry) (lines : List Line) (n : ℕ) : Type 0 where
  pub place : ℕ
  pub counted : n ≡ suc place
  pub wrong : IsRightAt h lines place → ⊥
  pub before : (k : ℕ) → k < place → IsRightAt h lines k

-- the pairs of the cycle that is found in some lists
abbrev pub found_pairs : List ℕ → List (List ℕ) → Option (List ℕ) → List Pair
found_pairs bases ls None = []
found_pairs bases ls (Some cycle) = pairs_of bases ls cycle

-- a line that tells of a cycle tells of the one that is found
abbrev pub IsFoundLine : List Entry → Entry → Line → Type 0
IsFoundLine h e (Order line) = Unit {0}
IsFoundLine h e (Without b) = Unit {0}
IsFoundLine h e (Cycle pairs) =
    (lines : List (List ℕ)) → map (order_in h) e.bases.items ≡ map Some lines → pairs.items ≡ found_pairs e.bases.items (lists_of e.bases.items lines) (cycle_of (lists_of e.bases.items lines))

abbrev pub AreFound : List Entry → List Line → Type 0
AreFound h lines = (k : ℕ) → OnBoth (IsFoundLine h) (slice_get h (suc k)) (slice_get lines k)
