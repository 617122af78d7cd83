-- Texts in a table.
use Rattle.py_node.specs.Below.{ℕ, List, Some, slice_get}
use Rattle.std.specs.Prelude.{◌≡◌}

-- no text stands twice
abbrev pub AreDistinct : List (List ℕ) → Type 0
AreDistinct texts = (n m : ℕ) (text : List ℕ) → slice_get texts n ≡ Some text → slice_get texts m ≡ Some text → n ≡ m

-- the text stands in the table
abbrev pub Stands : List (List ℕ) → List ℕ → Type 0
Stands texts text = (n : ℕ) × (slice_get texts n ≡ Some text)
