-- What is got from the bases of a class, a base at a time. No public contract names these.
use Rattle.class_table.specs.Below.{ℕ, Bool, false, cond, List, [], map, Option, Some, None, option_and_then, Result, Ok, Err, Cause, PyTypeRef, least_order, all_some, Classes, class_at, lin, is_sub, limit, solid}
use Rattle.std.specs.Prelude.{◌≡◌, ◌≤◌, ◌∷◌}
use Rattle.py_node.specs.declared.raised.Cause.TheVariants as causes
use Rattle.class_table.specs.declared.mro_merge.fault.MroFault.{MroFault}
use Rattle.class_table.specs.declared.mro_merge.fault.MroFault.TheVariants as merge
use Rattle.class_table.specs.Keys.{number_of}
use Rattle.class_table.specs.Refused.{is_base_at}
use Rattle.class_table.specs.declared.fault.ClassFault.{ClassFault}
use Rattle.class_table.specs.declared.fault.ClassFault.TheVariants.{Refused, OutOfMemory}

-- whether the first of two classes is there and derives from the second
abbrev pub is_under : {K : Type 0} → Classes K → Option ℕ → Option ℕ → Bool
is_under t None d = false
is_under t (Some c) None = false
is_under t (Some c) (Some d) = is_sub t c d

abbrev pub better_of : {K : Type 0} → Classes K → ℕ → ℕ → Result ℕ Cause
better_of t a b = cond (is_under t (solid t a) (solid t b)) (Ok a) (cond (is_under t (solid t b) (solid t a)) (Ok b) (Err causes.LayoutConflict))

-- the better of the best base so far and a further one
abbrev pub better : {K : Type 0} → Classes K → Option ℕ → ℕ → Result ℕ Cause
better t None b = Ok b
better t (Some a) b = better_of t a b

abbrev pub next_best : {K : Type 0} → Classes K → Option ℕ → ℕ → Result ℕ Cause
next_best t best b = cond (is_base_at (class_at t b)) (better t best b) (Err causes.NotBaseType)

abbrev pub then_best : (ℕ → Result (Option ℕ) Cause) → Result ℕ Cause → Result (Option ℕ) Cause
then_best go (Ok b) = go b
then_best go (Err cause) = Err cause

-- the best base, base by base
abbrev pub best_along : {K : Type 0} → Classes K → Option ℕ → List ℕ → Result (Option ℕ) Cause
best_along t best [] = Ok best
best_along t best (b ∷ bs) = then_best (λ d. best_along t (Some d) bs) (next_best t best b)

-- the same by numbers
abbrev pub number_found : Result PyTypeRef Cause → Result ℕ Cause
number_found (Ok c) = Ok c.0
number_found (Err cause) = Err cause

abbrev pub number_best : Result (Option PyTypeRef) Cause → Result (Option ℕ) Cause
number_best (Ok c) = Ok (number_of c)
number_best (Err cause) = Err cause

-- what follows any new class with these bases in its linearisation
abbrev pub Follows : {K : Type 0} → Classes K → List ℕ → List ℕ → Type 0
Follows t bs rest = (n : ℕ) → limit t ≤ n → option_and_then (least_order n bs) (all_some (map (lin t) bs)) ≡ Some (n ∷ rest)

-- how a merge is refused, as a class is
abbrev pub fault_of : MroFault → ClassFault
fault_of (merge.DuplicateBase b) = Refused causes.DuplicateBase
fault_of merge.LocalPrecedence = Refused causes.LocalPrecedence
fault_of merge.MroConflict = Refused causes.MroConflict
fault_of merge.OutOfMemory = OutOfMemory
