-- The linearisations of all classes, in one array, and the rest of what is kept of each.
use Rattle.class_table.specs.Below.{ℕ, List, [], length, take, drop, slice_get, Some, PyTypeRef, Includes}
use Rattle.std.specs.Prelude.{◌≡◌, ◌+◌, ◌<◌, ◌≤◌, ◌∷◌}
use Rattle.class_table.specs.Keys.{numbers}
use Rattle.class_table.specs.Stored.{StoredClass}
use Rattle.class_table.specs.declared.lines.Part.{Part}
use Rattle.class_table.specs.declared.renew.Renewed.{Renewed}

-- a part of the array
abbrev pub part_of : List PyTypeRef → Part → List ℕ
part_of array p = numbers (take p.length (drop p.start array))

pub record IsWithin (array : List PyTypeRef) (p : Part) : Type 0 where
  pub within : p.start + p.length ≤ length array

-- a class with a linearisation
abbrev pub with_line : StoredClass → List ℕ → StoredClass
with_line k line = record k { mro = line }

-- classes with their linearisations, in order
abbrev pub with_lines : List StoredClass → List (List ℕ) → List StoredClass
with_lines [] lines = []
with_lines (k ∷ kept) [] = []
with_lines (k ∷ kept) (line ∷ lines) = with_line k line ∷ with_lines kept lines

-- linearisations for all classes: at some places those that are made anew, at the others those of now
pub record AreLinesOf (kept : List StoredClass) (places : List ℕ) (renewed : List Renewed) (lines : List (List ℕ)) : Type 0 where
  pub count : length lines ≡ length kept
  pub at : (j i : ℕ) (r : Renewed) → slice_get places j ≡ Some i → slice_get renewed j ≡ Some r → slice_get lines i ≡ Some (numbers r.mro.items)
  pub away : (i : ℕ) (k : StoredClass) → (Includes places i → ⊥) → slice_get kept i ≡ Some k → slice_get lines i ≡ Some k.mro

-- those of the first classes
pub record AreLinesTo (kept : List StoredClass) (places : List ℕ) (renewed : List Renewed) (n : ℕ) (lines : List (List ℕ)) : Type 0 where
  pub count : length lines ≡ n
  pub at : (j i : ℕ) (r : Renewed) → i < n → slice_get places j ≡ Some i → slice_get renewed j ≡ Some r → slice_get lines i ≡ Some (numbers r.mro.items)
  pub away : (i : ℕ) (k : StoredClass) → i < n → (Includes places i → ⊥) → slice_get kept i ≡ Some k → slice_get lines i ≡ Some k.mro
