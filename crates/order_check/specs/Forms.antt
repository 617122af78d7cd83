-- What the entries of a hierarchy are tested for. No public contract names these.
use Rattle.order_check.specs.Below.{ℕ, List, take, get_or, Some, slice_get, Includes}
use Rattle.std.specs.Prelude.{◌≡◌, ◌<◌}
use Rattle.order_check.specs.declared.hierarchy.Entry.{Entry}
use Rattle.order_check.specs.Hierarchy.{keys_of}

-- before a place each key is less than any later one
unfoldable pub AreAscending : List ℕ → ℕ → Type 0
AreAscending keys n = (j k : ℕ) → j < k → k < n → get_or keys j 0 < get_or keys k 0

-- each base is one of the keys before a place
unfoldable pub AreBefore : List ℕ → ℕ → List ℕ → Type 0
AreBefore keys n bases = (b : ℕ) → Includes bases b → Includes (take n keys) b

-- of each entry before a place the bases are those of earlier ones
unfoldable pub AreEarlierTo : List Entry → ℕ → Type 0
AreEarlierTo h n = (k : ℕ) (e : Entry) → k < n → slice_get h k ≡ Some e → AreBefore (keys_of h) k e.bases.items
