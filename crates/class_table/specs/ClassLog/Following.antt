-- A list of changes that follows a log.
use Rattle.class_table.specs.Below.{ℕ, List, Some, slice_get}
use Rattle.std.specs.Prelude.{◌≡◌, ◌++◌}
use Rattle.class_table.specs.ClassLog.Change.{Change}
use Rattle.class_table.specs.ClassLog.Shown.{shown}
use Rattle.class_table.specs.ClassLog.Refused.{AreMade}

-- the whole begins with the part
abbrev pub BeginsWith : {A : Type 0} → List A → List A → Type 0
BeginsWith {A} part whole = (rest : List A) × (part ++ rest ≡ whole)

-- each of some changes stands in its place still. So what is after begins with what was before
abbrev pub Keeps : List Change → List Change → Type 0
Keeps old new = (n : ℕ) (c : Change) → slice_get old n ≡ Some c → slice_get new n ≡ Some c

-- a log begins with some changes, and each of the others is made in its turn
pub record CanFollow (done log : List Change) : Type 0 where
  pub rest : List Change
  pub whole : done ++ rest ≡ log
  pub made : AreMade (shown done) rest

-- some changes were made after the old ones, with which the rest begins, and each of those that are left is made in its turn
pub record Continues (old new rest : List Change) : Type 0 where
  pub made : List Change
  pub left : List Change
  pub is : new ≡ old ++ made
  pub split : made ++ left ≡ rest
  pub fit : AreMade (shown new) left
