-- The class that is to blame where other bases leave no order.
use Rattle.class_table.specs.Below.{ℕ, false, true, List, Option, Some, None, slice_get, with_bases, is_blamed, caused}
use Rattle.std.specs.Prelude.{◌≡◌, ◌<◌, ◌≤◌}
use Rattle.class_table.specs.Stored.{StoredClass, classes_of}
use Rattle.class_table.specs.Trial.{bases_under}
use Rattle.class_table.specs.declared.blame.Blame.{Blame}
use Rattle.class_table.specs.declared.descendants.Ranked.{Ranked}

-- the class at a place has no order, while all its bases have one
abbrev pub IsBlamed : List StoredClass → ℕ → List ℕ → StoredClass → Type 0
IsBlamed kept c bs k = is_blamed (with_bases (classes_of kept) c bs) k.number (bases_under c bs k) ≡ true

abbrev pub IsSpared : List StoredClass → ℕ → List ℕ → StoredClass → Type 0
IsSpared kept c bs k = is_blamed (with_bases (classes_of kept) c bs) k.number (bases_under c bs k) ≡ false

-- and for this cause
pub record IsBlame (kept : List StoredClass) (c : ℕ) (bs : List ℕ) (b : Blame) : Type 0 where
  pub class : StoredClass
  pub at : slice_get kept b.place ≡ Some class
  pub blamed : IsBlamed kept c bs class
  pub caused : caused (with_bases (classes_of kept) c bs) class.number ≡ Some (class.number, b.cause)

-- each that was found is to blame
abbrev pub AreBlame : List StoredClass → ℕ → List ℕ → Option Blame → Type 0
AreBlame kept c bs None = Unit {0}
AreBlame kept c bs (Some b) = IsBlame kept c bs b

-- the one that was found stands no later than a place
abbrev pub IsReached : Option Blame → ℕ → Type 0
IsReached None i = ⊥
IsReached (Some b) i = b.place ≤ i

-- of the first of some classes, each that is to blame was reached
abbrev pub AreReached : List StoredClass → ℕ → List ℕ → List Ranked → ℕ → Option Blame → Type 0
AreReached kept c bs ranked n first = (j : ℕ) (r : Ranked) (k : StoredClass) → j < n → slice_get ranked j ≡ Some r → slice_get kept r.place ≡ Some k → IsBlamed kept c bs k → IsReached first r.place

-- of all
abbrev pub AllReached : List StoredClass → ℕ → List ℕ → Option Blame → Type 0
AllReached kept c bs first = (i : ℕ) (k : StoredClass) → slice_get kept i ≡ Some k → IsBlamed kept c bs k → IsReached first i
