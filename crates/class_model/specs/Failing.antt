-- The class that is to blame where new bases leave no order, in words.
use Rattle.class_model.specs.Below.{ℕ, List, map, Some, None, slice_get, Cause, LocalPrecedence, MroConflict}
use Rattle.std.specs.Prelude.{◌≡◌, ◌<◌, ◌≤◌, ◌↔◌}
use Rattle.class_model.specs.Order.{Includes, IsOrder}
use Rattle.class_model.specs.Class.{Classes, bases_of, lin, past_first}
use Rattle.class_model.specs.Change.{with_bases, failing}

-- a base stands past the head of a later base's linearisation
pub record BreaksPrecedence (bases : List ℕ) (lines : List (List ℕ)) : Type 0 where
  pub place : ℕ
  pub later : ℕ
  pub base : ℕ
  pub line : List ℕ
  pub before : place < later
  pub at_place : slice_get bases place ≡ Some base
  pub at_later : slice_get lines later ≡ Some line
  pub past : Includes (past_first line) base

-- the bases of a class have these linearisations, and the class has no order
pub record IsBlamed {K : Type 0} (t : Classes K) (d : ℕ) (bases : List ℕ) (lines : List (List ℕ)) : Type 0 where
  pub of_class : bases_of t d ≡ Some bases
  pub of_bases : map (lin t) bases ≡ map Some lines
  pub none : (xs : List ℕ) → IsOrder d bases lines xs → ⊥

-- the least-numbered of such classes, with the cause
pub record IsFailing {K : Type 0} (t : Classes K) (d : ℕ) (cause : Cause) : Type 0 where
  pub bases : List ℕ
  pub lines : List (List ℕ)
  pub blamed : IsBlamed t d bases lines
  pub least : (e : ℕ) (bs : List ℕ) (ls : List (List ℕ)) → IsBlamed t e bs ls → d ≤ e
  pub precedence : (cause ≡ LocalPrecedence) ↔ BreaksPrecedence bases lines
  pub conflict : (cause ≡ MroConflict) ↔ (BreaksPrecedence bases lines → ⊥)

-- there is no such class
abbrev pub NoneIsBlamed : {K : Type 0} → Classes K → Type 0
NoneIsBlamed t = (d : ℕ) (bs : List ℕ) (ls : List (List ℕ)) → IsBlamed t d bs ls → ⊥

-- what is defined to fail is what fails in words
abbrev pub FailsAsSaid : {K : Type 0} → Classes K → Type 0
FailsAsSaid t = (c d : ℕ) (bs : List ℕ) (cause : Cause) → (failing t c bs ≡ Some (d, cause)) ↔ IsFailing (with_bases t c bs) d cause

abbrev pub PassesAsSaid : {K : Type 0} → Classes K → Type 0
PassesAsSaid t = (c : ℕ) (bs : List ℕ) → (failing t c bs ≡ None) ↔ NoneIsBlamed (with_bases t c bs)
