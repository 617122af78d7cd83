-- What stays where a change is refused, and what a call that isn't refused has passed.
use Rattle.class_table.proofs.Below.{Bool, true, false, cond, List, Some, None, refl, sym, subst, NotBaseType, PyStrInterned, Classes, Change, IsLogged}
use Rattle.std.proofs.Common.{◌≡◌}

-- the log and the classes are as they were
pub logged-kept : (log new : List Change) (t u : Classes PyStrInterned) → new ≡ log → u ≡ t → IsLogged log t → IsLogged new u
logged-kept log new t u e p h = subst (IsLogged new) (sym p) (subst (λ (l : List Change). IsLogged l t) (sym e) h)

-- a base that isn't refused may have subclasses
pub base-allowed : (may : Bool) → None ≡ cond may None (Some NotBaseType) → may ≡ true
base-allowed true e = refl
base-allowed false e = cc
