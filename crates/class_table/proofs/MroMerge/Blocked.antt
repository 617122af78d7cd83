-- A list that holds a class back.
use Rattle.class_table.proofs.Below.{ℕ, zero, suc, true, List, [], length, get_or, sym, ap, ◌∙◌, arith, Vec, or_right, PyTypeRef, has, past_first, stands_past, rows}
use Rattle.std.proofs.Common.{◌≡◌, ◌<◌, ◌∷◌}
use Rattle.std.specs.Prelude.{◌||◌}
use Rattle.class_table.specs.MroMerge.Lists.{numbers}

-- what stands past the head of one of some lists stands past a head
pub past-at : (x : ℕ) (lists : List (Vec PyTypeRef)) (i : ℕ) (v : Vec PyTypeRef) → i < length lists → v ≡ get_or lists i v → has (past_first (numbers v.items)) x ≡ true → stands_past x (rows lists) ≡ true
past-at x [] i v l at e = absurd (omega arith)
past-at x (u ∷ us) zero v l at e =
    ap (λ (w : Vec PyTypeRef). has (past_first (numbers w.items)) x || stands_past x (rows us)) (sym at) ∙ ap (λ b. b || stands_past x (rows us)) e
past-at x (u ∷ us) (suc i) v l at e = or_right (has (past_first (numbers u.items)) x) (stands_past x (rows us)) (past-at x us i v (omega arith) at e)
