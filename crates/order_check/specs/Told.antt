-- The lists of a class, as a report's lines tell them, and how a line is tested. No public contract names these.
use Rattle.order_check.specs.Below.{ℕ, Bool, true, false, eqb, leb, List, [], map, get_or, Option, Some, None, option_map, is_distinct, Includes, merged}
use Rattle.std.specs.Prelude.{◌≡◌, ◌<◌, ◌&&◌, ◌∷◌, ◌++◌}
use Rattle.order_check.specs.declared.hierarchy.Entry.{Entry}
use Rattle.order_check.specs.declared.report.Pair.{Pair}
use Rattle.order_check.specs.declared.report.Line.{Line}
use Rattle.order_check.specs.declared.report.Line.TheVariants.{Order, Cycle, Without}
use Rattle.order_check.specs.declared.told.Told.{Told}
use Rattle.order_check.specs.Cycle.{is_before_in, first_or}
use Rattle.order_check.specs.Hierarchy.{keys_of, order_in}
use Rattle.order_check.specs.Known.{known_in}
use Rattle.order_check.specs.Report.{list_with}

abbrev pub order_told : Line → Option (List ℕ)
order_told (Order line) = Some line.items
order_told (Cycle pairs) = None
order_told (Without b) = None

-- the orders that are told, the first class's own first
abbrev pub orders_told : List ℕ → List Line → List (Option (List ℕ))
orders_told root lines = Some root ∷ map order_told lines

-- what is told of the class with a key
abbrev pub told_in : Told → ℕ → Option (List ℕ)
told_in t c = known_in t.entries.now (orders_told t.root.now t.lines.now) c

abbrev pub or_empty : Option (List ℕ) → List ℕ
or_empty None = []
or_empty (Some l) = l

-- the orders of the bases in the second list, and the list of bases in the first
abbrev pub lists_past : (ℕ → Option (List ℕ)) → List ℕ → List ℕ → List (List ℕ)
lists_past f bases rest = map (λ b. or_empty (f b)) rest ++ bases ∷ []

abbrev pub lists_told : (ℕ → Option (List ℕ)) → List ℕ → List (List ℕ)
lists_told f bases = lists_past f bases bases

abbrev pub firsts : List Pair → List ℕ
firsts ps = map (λ p. p.first) ps

-- none is less
abbrev pub is_least : ℕ → List ℕ → Bool
is_least x [] = true
is_least x (y ∷ ys) = leb x y && is_least x ys

abbrev pub is_same_list : Option ℕ → Option ℕ → Bool
is_same_list None None = true
is_same_list None (Some y) = false
is_same_list (Some x) None = false
is_same_list (Some x) (Some y) = eqb x y

-- a pair goes on to y in one of the lists, and names the first of them
abbrev pub is_told : List ℕ → List (List ℕ) → Pair → ℕ → Bool
is_told bases ls p y = eqb p.second y && (is_before_in p.first y ls && is_same_list p.list (list_with p.first y bases ls))

-- each goes on to the first of the next, and the last one to the given class
abbrev pub are_told : List ℕ → List (List ℕ) → ℕ → List Pair → Bool
are_told bases ls last [] = true
are_told bases ls last (p ∷ ps) = is_told bases ls p (first_or last (firsts ps)) && are_told bases ls last ps

abbrev pub tells_cycle : List ℕ → List (List ℕ) → List Pair → Bool
tells_cycle bases ls [] = false
tells_cycle bases ls (p ∷ ps) = is_distinct (firsts (p ∷ ps)) && (is_least p.first (firsts ps) && are_told bases ls p.first (p ∷ ps))

-- the order that a class has by its lists, if these have a merge
abbrev pub merged_order : ℕ → List (List ℕ) → Option (List ℕ)
merged_order c ls = option_map (λ xs. c ∷ xs) (merged ls)

-- of each class before a place what is told is so
unfoldable pub AreToldTo : List Entry → List (Option (List ℕ)) → ℕ → Type 0
AreToldTo h os n = (k : ℕ) → k < n → known_in h os (get_or (keys_of h) k 0) ≡ order_in h (get_or (keys_of h) k 0)

-- of each base what is told is so
abbrev pub AreToldOf : Told → List ℕ → Type 0
AreToldOf t bases = (b : ℕ) → Includes bases b → told_in t b ≡ order_in t.entries.now b
