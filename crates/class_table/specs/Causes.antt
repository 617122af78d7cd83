-- Why a class is refused, in words.
use Rattle.class_table.specs.Below.{ℕ, true, false, List, [], map, length, take, Some, slice_get, Result, EmptyBases, NotBaseType, LayoutConflict, DuplicateBase, LocalPrecedence, MroConflict, Distinct, IsOrder, Classes, class_at, lin, limit, solid, BreaksPrecedence}
use Rattle.std.specs.Prelude.{◌≡◌, ◌<◌, ◌↔◌}
use Rattle.class_table.specs.Refused.{refusal, WithMemory, is_base_at, most_derived, are_apart}
use Rattle.class_table.specs.declared.fault.ClassFault.{ClassFault}

-- a base may have subclasses, and its layout goes with those before it
pub record Fits {K : Type 0} (t : Classes K) (bases : List ℕ) (place base : ℕ) : Type 0 where
  pub may : is_base_at (class_at t base) ≡ true
  pub layout : are_apart t (most_derived t (take place bases)) (solid t base) ≡ false

-- each of the first bases does
abbrev pub AllFit : {K : Type 0} → Classes K → List ℕ → ℕ → Type 0
AllFit t bases n = (place base : ℕ) → place < n → slice_get bases place ≡ Some base → Fits t bases place base

-- those before one fit, and it may have no subclasses
pub record LacksBase {K : Type 0} (t : Classes K) (bases : List ℕ) : Type 0 where
  pub place : ℕ
  pub base : ℕ
  pub at : slice_get bases place ≡ Some base
  pub before : AllFit t bases place
  pub lacks : is_base_at (class_at t base) ≡ false

-- those before one fit, and of its solid class and the most derived of theirs neither derives from the other
pub record HasLayoutConflict {K : Type 0} (t : Classes K) (bases : List ℕ) : Type 0 where
  pub place : ℕ
  pub base : ℕ
  pub at : slice_get bases place ≡ Some base
  pub before : AllFit t bases place
  pub may : is_base_at (class_at t base) ≡ true
  pub apart : are_apart t (most_derived t (take place bases)) (solid t base) ≡ true

-- all fit, and one stands twice
pub record HasDuplicate {K : Type 0} (t : Classes K) (bases : List ℕ) : Type 0 where
  pub fit : AllFit t bases (length bases)
  pub twice : Distinct bases → ⊥

-- all fit, none stands twice, and these are their linearisations
pub record AreLined {K : Type 0} (t : Classes K) (bases : List ℕ) (lines : List (List ℕ)) : Type 0 where
  pub fit : AllFit t bases (length bases)
  pub distinct : Distinct bases
  pub lines_of : map (lin t) bases ≡ map Some lines

-- a base stands past the head of a later base's linearisation
pub record BreaksOrder {K : Type 0} (t : Classes K) (bases : List ℕ) : Type 0 where
  pub lines : List (List ℕ)
  pub lined : AreLined t bases lines
  pub broken : BreaksPrecedence bases lines

-- none does, and still a new class has no order
pub record HasNoLine {K : Type 0} (t : Classes K) (bases : List ℕ) : Type 0 where
  pub lines : List (List ℕ)
  pub lined : AreLined t bases lines
  pub kept : BreaksPrecedence bases lines → ⊥
  pub none : (xs : List ℕ) → IsOrder (limit t) bases lines xs → ⊥

-- each cause is told where it is so. Those that need an order are not told where memory is short
pub record AreTold {K T : Type 0} (t : Classes K) (bases : List ℕ) (answer : Result T ClassFault) : Type 0 where
  pub empty : (refusal answer ≡ Some EmptyBases) ↔ (bases ≡ [])
  pub base : (refusal answer ≡ Some NotBaseType) ↔ LacksBase t bases
  pub layout : (refusal answer ≡ Some LayoutConflict) ↔ HasLayoutConflict t bases
  pub duplicate : WithMemory answer ((refusal answer ≡ Some DuplicateBase) ↔ HasDuplicate t bases)
  pub precedence : WithMemory answer ((refusal answer ≡ Some LocalPrecedence) ↔ BreaksOrder t bases)
  pub conflict : WithMemory answer ((refusal answer ≡ Some MroConflict) ↔ HasNoLine t bases)
