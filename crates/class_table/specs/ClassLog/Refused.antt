-- What a change asks of the classes to which it is made, and why it is refused.
use Rattle.class_table.specs.Below.{ℕ, Bool, true, false, cond, List, [], Option, None, option_map, Cause, PyStrInterned, heap_flags, Classes, is_class, any_has_dict, slots_bring, limit}
use Rattle.std.specs.Prelude.{◌≡◌, ◌≤◌, ◌||◌, ◌∷◌}
use Rattle.class_table.specs.Keys.{table_keys}
use Rattle.class_table.specs.OneBase.{refused_single}
use Rattle.class_table.specs.Rebase.{Refusal, refused_rebase}
use Rattle.class_table.specs.Refused.{AreThere, refused_attr, refused_bases}
use Rattle.class_table.specs.ClassLog.Change.{Made, Change, Make, SetOwn, DelOwn, SetBases}
use Rattle.class_table.specs.ClassLog.Shown.{is_of_script, changed}

-- a script's class has the flags that a script gives it. A static class has no `__slots__`, and one base
abbrev pub IsOfItsKind : Classes PyStrInterned → Made → Bool → Type 0
IsOfItsKind t m true = m.flags ≡ heap_flags (slots_bring table_keys m.slots || any_has_dict t m.bases)
IsOfItsKind t m false = (m.slots ≡ None) × (base : ℕ) × (m.bases ≡ base ∷ [])

-- a class can be made: its number is greater than all there, its bases are there, and it is of its kind
pub record CanBeMade (t : Classes PyStrInterned) (m : Made) : Type 0 where
  pub fresh : limit t ≤ m.class
  pub bases : AreThere t m.bases
  pub kind : IsOfItsKind t m (is_of_script m)

-- what a change names is there
abbrev pub IsFit : Classes PyStrInterned → Change → Type 0
IsFit t (Make m) = CanBeMade t m
IsFit t (SetOwn c n v) = is_class t c ≡ true
IsFit t (DelOwn c n) = is_class t c ≡ true
IsFit t (SetBases c bs) = (is_class t c ≡ true) × AreThere t bs

-- why a static class may not have a base: the base may have no subclasses
abbrev pub refused_static : Classes PyStrInterned → List ℕ → Option Cause
refused_static t [] = None
refused_static t (b ∷ bs) = refused_single t b

-- a refusal that names no class
abbrev pub by_cause : Option Cause → Option Refusal
by_cause cause = option_map (λ k. (k, None)) cause

-- why a class is not made
abbrev pub refused_made : Classes PyStrInterned → Made → Option Cause
refused_made t m = cond (is_of_script m) (refused_bases t m.bases) (refused_static t m.bases)

-- why a change is refused
abbrev pub refused : Classes PyStrInterned → Change → Option Refusal
refused t (Make m) = by_cause (refused_made t m)
refused t (SetOwn c n v) = by_cause (refused_attr t c)
refused t (DelOwn c n) = by_cause (refused_attr t c)
refused t (SetBases c bs) = refused_rebase t c bs

-- a change that is made: what it names is there, and no test refuses it
pub record IsMade (t : Classes PyStrInterned) (c : Change) : Type 0 where
  pub fit : IsFit t c
  pub passes : refused t c ≡ None

-- the same of some changes, one after the other
abbrev pub AreMade : Classes PyStrInterned → List Change → Type 0
AreMade t [] = Unit {0}
AreMade t (c ∷ cs) = IsMade t c × AreMade (changed t c) cs
