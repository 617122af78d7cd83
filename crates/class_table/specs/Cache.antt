-- The answers of look-ups, kept until a class changes.
use Rattle.class_table.specs.Below.{ℕ, List, Option, Some, None, All, PyStrInterned, is_same_name, Classes, found}
use Rattle.std.specs.Prelude.{◌≡◌, ◌≤◌}
use Rattle.class_table.specs.declared.cache.Cache.{Cache}
use Rattle.class_table.specs.declared.cache.Row.{Row}

-- a row of the present version holds what is found, and none has a later version
pub record Tells (t : Classes PyStrInterned) (version : ℕ) (r : Row) : Type 0 where
  pub now : r.version ≡ version → r.answer ≡ found is_same_name t r.class.0 r.name
  pub earlier : r.version ≤ version

-- the same of a row that may be empty
abbrev pub TellsIfAny : Classes PyStrInterned → ℕ → Option Row → Type 0
TellsIfAny t version None = Unit {0}
TellsIfAny t version (Some r) = Tells t version r

-- of each row
pub record IsCached (t : Classes PyStrInterned) (c : Cache) : Type 0 where
  pub rows : All (TellsIfAny t c.version) c.rows.items

-- all rows are empty
pub record AreEmpty (rows : List (Option Row)) : Type 0 where
  pub each : All (λ r. r ≡ None) rows
