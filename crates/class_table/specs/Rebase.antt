-- Other bases for a class, and why they are refused.
use Rattle.class_table.specs.Below.{ℕ, Bool, true, false, cond, eqb, List, [], Option, Some, None, option_map, option_and_then, Result, Ok, Err, option_or, Cause, EmptyBases, ImmutableType, InheritanceCycle, LayoutDiffers, DuplicateBase, is_distinct, Classes, class_at, is_sub, is_empty, solid, base, alike, has_dict, keeps_dict, failing, is_heap_at}
use Rattle.std.specs.Prelude.{◌&&◌, ◌||◌, ◌∷◌, ◌≡◌}
use Rattle.class_table.specs.Refused.{refused_attr, refused_layout, most_derived}
use Rattle.class_table.specs.declared.fault.ClassFault.{ClassFault}
use Rattle.class_table.specs.declared.fault.ClassFault.TheVariants.{Refused, RefusedAt, OutOfMemory}

-- whether one of some classes is the class or derives from it
abbrev pub any_derives : {K : Type 0} → Classes K → List ℕ → ℕ → Bool
any_derives t [] c = false
any_derives t (b ∷ bs) c = is_sub t b c || any_derives t bs c

abbrev pub is_same : Option ℕ → Option ℕ → Bool
is_same None None = true
is_same None (Some b) = false
is_same (Some a) None = false
is_same (Some a) (Some b) = eqb a b

-- a cause, where a test fails
abbrev pub unless : Bool → Cause → Option Cause
unless passed cause = cond passed None (Some cause)

-- the tests of the bases together: base by base, it may have subclasses and its layout goes with those before it; the solid class of the best of them is that of the best base of now; the class gives its objects a dict as before; none stands twice
abbrev pub refused_shape : {K : Type 0} → Classes K → ℕ → List ℕ → Option Cause
refused_shape t c bs =
    option_or (refused_layout t bs) (
    option_or (unless (is_same (most_derived t bs) (option_and_then (solid t) (base t c))) LayoutDiffers) (
    option_or (unless (keeps_dict t c bs) LayoutDiffers) (unless (is_distinct bs) DuplicateBase)))

-- the tests that need no order, one after the other: a script made the class; it gets bases; none of them is the class or derives from it; and those of the bases together
abbrev pub refused_change : {K : Type 0} → Classes K → ℕ → List ℕ → Option Cause
refused_change t c bs =
    option_or (refused_attr t c) (
    option_or (cond (is_empty bs) (Some EmptyBases) None) (
    option_or (cond (any_derives t bs c) (Some InheritanceCycle) None) (refused_shape t c bs)))

-- a refusal: its cause, and for a lost order the class that has none
abbrev pub Refusal : Type 0
Refusal = Cause × Option ℕ

-- why a class may not have other bases: a test that needs no order fails, or a class would have no order while all its bases have one. Of these it is the least-numbered
abbrev pub refused_rebase : {K : Type 0} → Classes K → ℕ → List ℕ → Option Refusal
refused_rebase t c bs =
    option_or (option_map (λ cause. (cause, None)) (refused_change t c bs)) (option_map (λ r. (r.1, Some r.0)) (failing t c bs))

-- what an answer tells
abbrev pub told : {T : Type 0} → Result T ClassFault → Option Refusal
told (Ok x) = None
told (Err (Refused cause)) = Some (cause, None)
told (Err (RefusedAt cause c)) = Some (cause, Some c.0)
told (Err OutOfMemory) = None

-- the tests that need no order are told first, and also where memory is short
abbrev pub IsToldFirst : {K : Type 0} → Classes K → ℕ → List ℕ → Option Refusal → Type 0
IsToldFirst t c bs answer = (cause : Cause) → refused_change t c bs ≡ Some cause → answer ≡ Some (cause, None)

-- why the objects of a class may not become those of another one: scripts made both, and their solid class is the same, and so is whether they give a dict
abbrev pub refused_class : {K : Type 0} → Classes K → ℕ → ℕ → Option Cause
refused_class t c d =
    option_or (unless (is_heap_at (class_at t c) && is_heap_at (class_at t d)) ImmutableType)
    (unless (is_same (solid t c) (solid t d) && alike (has_dict t c) (has_dict t d)) LayoutDiffers)
