-- Slots that are found anew after the bases of a class were changed, and how many places are looked at.
use Rattle.class_table.specs.Below.{ℕ, Bool, true, cond, not, List, [], map, length, Option, Some, None, slice_get, sum_by, has, Classes, is_heap, lin, entries, natives_of}
use Rattle.std.specs.Prelude.{◌≡◌, ◌+◌, ◌&&◌, ◌∷◌}
use Rattle.class_table.specs.Keys.{table_keys}
use Rattle.class_table.specs.Stored.{StoredClass, class_of, classes_of}
use Rattle.class_table.specs.Patch.{settled}
use Rattle.class_table.specs.declared.descendants.Ranked.{Ranked}

-- how many places a linearisation has
abbrev pub line_length : Option (List ℕ) → ℕ
line_length None = 0
line_length (Some line) = length line

-- the places of the linearisations of some classes, added up
abbrev pub line_places : {K : Type 0} → Classes K → List ℕ → ℕ
line_places t [] = 0
line_places t (d ∷ ds) = line_length (lin t d) + line_places t ds

-- the same of the class at a place that is kept
abbrev pub line_kept : Option StoredClass → ℕ
line_kept None = 0
line_kept (Some k) = length k.mro

-- and of those at some places
abbrev pub places_kept : List StoredClass → List Ranked → ℕ
places_kept kept rs = sum_by (λ (r : Ranked). line_kept (slice_get kept r.place)) rs

-- each class that a script made has the slots of its definition
abbrev pub AreHeapsSettled : List StoredClass → Type 0
AreHeapsSettled kept = (i : ℕ) (k : StoredClass) → slice_get kept i ≡ Some k → is_heap (class_of k) ≡ true → k.slots ≡ entries table_keys natives_of (classes_of kept) k.number

-- those classes that pass a test got the slots of their definitions, and all others stay
pub record AreSettled (is : ℕ → StoredClass → Bool) (old new : List StoredClass) : Type 0 where
  pub count : length new ≡ length old
  pub at : (i : ℕ) (k : StoredClass) → slice_get old i ≡ Some k → slice_get new i ≡ Some (cond (is i k) (settled (classes_of old) k) k)

-- whether a place is among some
abbrev pub is_ranked : List Ranked → ℕ → Bool
is_ranked rs i = has (map (λ r. r.place) rs) i

-- the same of a class that a script made, and of one that none did
abbrev pub is_heap_ranked : List Ranked → ℕ → StoredClass → Bool
is_heap_ranked rs i k = is_ranked rs i && is_heap (class_of k)

abbrev pub is_static_ranked : List Ranked → ℕ → StoredClass → Bool
is_static_ranked rs i k = is_ranked rs i && not (is_heap (class_of k))
