-- What other bases of a class make of the linearisations.
use Rattle.class_table.specs.Below.{ℕ, true, cond, eqb, List, map, Option, Some, None, slice_get, Bor, lookup, Vec, PyStrInterned, PyTypeRef, Cause, has, all_some, Classes, bases_of, lin, with_bases, order_cause}
use Rattle.std.specs.Prelude.{◌≡◌, ◌<◌}
use Rattle.class_table.specs.MroMerge.Lists.{rows}
use Rattle.class_table.specs.Keys.{numbers}
use Rattle.class_table.specs.Stored.{StoredClass, classes_of}
use Rattle.class_table.specs.declared.descendants.Ranked.{Ranked}
use Rattle.class_table.specs.declared.trial.Change.{Change}
use Rattle.class_table.specs.declared.trial.Trial.{Trial}
use Rattle.class_table.specs.declared.trial.Trial.TheVariants.{Line, Failed, Without}

-- the bases of a class, where one class has others
abbrev pub bases_under : ℕ → List ℕ → StoredClass → List ℕ
bases_under c bs k = cond (eqb k.number c) bs k.bases

-- the classes with the other bases
abbrev pub changed : Change → Classes PyStrInterned
changed change = with_bases (classes_of change.classes.now) change.class.0 (numbers change.bases.now)

-- a class has no order while all its bases have one, for a cause
pub record IsToBlame (t : Classes PyStrInterned) (x : ℕ) (cause : Cause) : Type 0 where
  pub bases : List ℕ
  pub lines : List (List ℕ)
  pub of_class : bases_of t x ≡ Some bases
  pub of_bases : map (lin t) bases ≡ map Some lines
  pub none : lin t x ≡ None
  pub why : order_cause bases lines ≡ cause

-- a base of a class has no order
pub record IsWithout (t : Classes PyStrInterned) (x : ℕ) : Type 0 where
  pub bases : List ℕ
  pub of_class : bases_of t x ≡ Some bases
  pub of_bases : all_some (map (lin t) bases) ≡ None

-- what is so of a class in the classes with the other bases
abbrev pub IsTrial : Classes PyStrInterned → ℕ → Trial → Type 0
IsTrial t x (Line line) = lin t x ≡ Some (numbers line.items)
IsTrial t x (Failed cause) = IsToBlame t x cause
IsTrial t x Without = IsWithout t x

-- the trial of the class at a place, if there is one
abbrev pub trial_at : List (ℕ × Trial) → ℕ → Option Trial
trial_at trials i = lookup (eqb i) trials

-- a class has a trial
abbrev pub HasTrial : Classes PyStrInterned → ℕ → Option Trial → Type 0
HasTrial t x None = ⊥
HasTrial t x (Some r) = IsTrial t x r

-- the trial of a class is known, where it derives from the changed one
pub record IsKnown (kept : List StoredClass) (c : ℕ) (bs : List ℕ) (trials : List (ℕ × Trial)) (x : ℕ) : Type 0 where
  pub at : (i : ℕ) (k : StoredClass) → slice_get kept i ≡ Some k → k.number ≡ x → has k.mro c ≡ true → HasTrial (with_bases (classes_of kept) c bs) x (trial_at trials i)

-- it is known of each class that derives from the changed one
pub record AreKnown (kept : List StoredClass) (c : ℕ) (bs : List ℕ) (trials : List (ℕ × Trial)) : Type 0 where
  pub at : (i : ℕ) (k : StoredClass) → slice_get kept i ≡ Some k → has k.mro c ≡ true → HasTrial (with_bases (classes_of kept) c bs) k.number (trial_at trials i)

-- it is known of the first of some
pub record AreTried (kept : List StoredClass) (c : ℕ) (bs : List ℕ) (ranked : List Ranked) (n : ℕ) (trials : List (ℕ × Trial)) : Type 0 where
  pub at : (j : ℕ) (r : Ranked) (k : StoredClass) → j < n → slice_get ranked j ≡ Some r → slice_get kept r.place ≡ Some k → HasTrial (with_bases (classes_of kept) c bs) k.number (trial_at trials r.place)

-- the linearisation that was found, if one was
abbrev pub line_tried : Trial → Option (List ℕ)
line_tried (Line line) = Some (numbers line.items)
line_tried (Failed cause) = None
line_tried Without = None

-- why a class has none, while all its bases have one
abbrev pub cause_tried : Trial → Option Cause
cause_tried (Line line) = None
cause_tried (Failed cause) = Some cause
cause_tried Without = None

-- a line that is lent, by its numbers
abbrev pub line_lent : Option (Bor (List PyTypeRef)) → Option (List ℕ)
line_lent None = None
line_lent (Some line) = Some (numbers line.now)

-- the linearisations of some bases, if all have one
abbrev pub AreLinesFor : Classes PyStrInterned → List ℕ → Option (Vec (Vec PyTypeRef)) → Type 0
AreLinesFor t bs None = all_some (map (lin t) bs) ≡ None
AreLinesFor t bs (Some lines) = map Some (rows lines.items) ≡ map (lin t) bs
