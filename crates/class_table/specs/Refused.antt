-- When a class is refused.
use Rattle.class_table.specs.Below.{ℕ, Bool, true, false, not, cond, List, [], map, Option, Some, None, is_some, option_and_then, Result, Ok, Err, option_or, Cause, EmptyBases, NotBaseType, LayoutConflict, DuplicateBase, ImmutableType, base_type, is_distinct, least_order, all_some, Class, Classes, class_at, is_class, has_flag, lin, is_sub, limit, solid, best_of, order_cause, is_heap_at}
use Rattle.std.specs.Prelude.{◌≡◌, ◌||◌, ◌∷◌, ◌++◌}
use Rattle.class_table.specs.declared.fault.ClassFault.{ClassFault}
use Rattle.class_table.specs.declared.fault.ClassFault.TheVariants.{Refused, RefusedAt, OutOfMemory}

-- the cause for which a call was refused, if it was
abbrev pub refusal : {T : Type 0} → Result T ClassFault → Option Cause
refusal (Ok x) = None
refusal (Err (Refused cause)) = Some cause
refusal (Err (RefusedAt cause c)) = Some cause
refusal (Err OutOfMemory) = None

-- a refusal names no class: only where other bases leave a class without an order is that class told
abbrev pub NamesNoClass : {T : Type 0} → Result T ClassFault → Type 0
NamesNoClass (Ok x) = Unit {0}
NamesNoClass (Err (Refused cause)) = Unit {0}
NamesNoClass (Err (RefusedAt cause c)) = ⊥
NamesNoClass (Err OutOfMemory) = Unit {0}

-- said of every answer but want of memory
abbrev pub WithMemory : {T : Type 0} → Result T ClassFault → Type 0 → Type 0
WithMemory (Ok x) P = P
WithMemory (Err (Refused cause)) P = P
WithMemory (Err (RefusedAt cause c)) P = P
WithMemory (Err OutOfMemory) P = Unit {0}

-- the answer is never want of memory
abbrev pub NeedsNoMemory : {T : Type 0} → Result T ClassFault → Type 0
NeedsNoMemory (Ok x) = Unit {0}
NeedsNoMemory (Err (Refused cause)) = Unit {0}
NeedsNoMemory (Err (RefusedAt cause c)) = Unit {0}
NeedsNoMemory (Err OutOfMemory) = ⊥

-- the cause of a call that takes no memory
abbrev pub cause_of : {T : Type 0} → Result T Cause → Option Cause
cause_of (Ok x) = None
cause_of (Err cause) = Some cause

-- may have subclasses
abbrev pub is_base_at : {K : Type 0} → Option (Class K) → Bool
is_base_at None = false
is_base_at (Some k) = has_flag base_type k

-- the most derived of the solid classes of some bases
abbrev pub most_derived : {K : Type 0} → Classes K → List ℕ → Option ℕ
most_derived t bs = option_and_then (solid t) (best_of t bs)

-- neither of two classes derives from the other
abbrev pub are_apart : {K : Type 0} → Classes K → Option ℕ → Option ℕ → Bool
are_apart t None d = false
are_apart t (Some c) None = false
are_apart t (Some c) (Some d) = not (is_sub t c d || is_sub t d c)

-- why a base may not follow those before it: it may have no subclasses, or its layout conflicts with theirs
abbrev pub refused_base : {K : Type 0} → Classes K → List ℕ → ℕ → Option Cause
refused_base t before b =
    cond (is_base_at (class_at t b)) (cond (are_apart t (most_derived t before) (solid t b)) (Some LayoutConflict) None) (Some NotBaseType)

-- the same of the first base that fails, after those before
abbrev pub refused_after : {K : Type 0} → Classes K → List ℕ → List ℕ → Option Cause
refused_after t before [] = None
refused_after t before (b ∷ bs) = option_or (refused_base t before b) (refused_after t (before ++ b ∷ []) bs)

-- why some bases may not be bases together, whatever their order
abbrev pub refused_layout : {K : Type 0} → Classes K → List ℕ → Option Cause
refused_layout t [] = Some EmptyBases
refused_layout t (b ∷ bs) = refused_after t [] (b ∷ bs)

-- why bases with these linearisations have no order, if a new class would have none
abbrev pub refused_lines : {K : Type 0} → Classes K → List ℕ → List (List ℕ) → Option Cause
refused_lines t bs lines = cond (is_some (least_order (limit t) bs lines)) None (Some (order_cause bs lines))

-- why some bases have no order: one stands twice, or the cause that their linearisations tell
abbrev pub refused_order : {K : Type 0} → Classes K → List ℕ → Option Cause
refused_order t bs = cond (is_distinct bs) (option_and_then (refused_lines t bs) (all_some (map (lin t) bs))) (Some DuplicateBase)

-- why a class with these bases may not be made by a script
abbrev pub refused_bases : {K : Type 0} → Classes K → List ℕ → Option Cause
refused_bases t bs = option_or (refused_layout t bs) (refused_order t bs)

-- what no order is needed for is told first, and also where memory is short
abbrev pub IsEarly : {K : Type 0} → Classes K → List ℕ → Option Cause → Type 0
IsEarly t bs answer = (cause : Cause) → refused_layout t bs ≡ Some cause → answer ≡ Some cause

-- why an attribute of a class may not be set by a script
abbrev pub refused_attr : {K : Type 0} → Classes K → ℕ → Option Cause
refused_attr t c = cond (is_heap_at (class_at t c)) None (Some ImmutableType)

-- every class of a list is there
abbrev pub AreThere : {K : Type 0} → Classes K → List ℕ → Type 0
AreThere t [] = Unit {0}
AreThere t (c ∷ cs) = (is_class t c ≡ true) × AreThere t cs
