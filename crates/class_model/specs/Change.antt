-- How classes are changed, and the class that is to blame where new bases leave no order.
use Rattle.class_model.specs.Below.{ℕ, Bool, false, cond, eqb, List, [], map, Option, Some, None, is_some, is_none, option_map, option_and_then, PyObjectRef, with_value, without_key, Cause, LocalPrecedence, MroConflict, Text}
use Rattle.std.specs.Prelude.{◌&&◌, ◌||◌, ◌∷◌, ◌++◌}
use Rattle.class_model.specs.Order.{has, all_some}
use Rattle.class_model.specs.Class.{Class, Classes, lin, bases_of, past_first}

-- one more class, whose number is greater than all there
abbrev pub with_class : {K : Type 0} → Classes K → Class K → Classes K
with_class t k = t ++ k ∷ []

-- one class changed
abbrev pub with_changed : {K : Type 0} → (Class K → Class K) → Classes K → ℕ → Classes K
with_changed f [] c = []
with_changed f (k ∷ t) c = cond (eqb k.number c) (f k ∷ t) (k ∷ with_changed f t c)

-- an own attribute set: in its place, or last
abbrev pub with_class_attr : {K : Type 0} → (K → K → Bool) → Classes K → ℕ → K → PyObjectRef → Classes K
with_class_attr same t c n v = with_changed (λ k. record k { attrs = with_value same k.attrs n v }) t c

-- an own attribute taken out
abbrev pub without_class_attr : {K : Type 0} → (K → K → Bool) → Classes K → ℕ → K → Classes K
without_class_attr same t c n = with_changed (λ k. record k { attrs = without_key same k.attrs n }) t c

-- another name
abbrev pub with_class_name : {K : Type 0} → Classes K → ℕ → Text → Classes K
with_class_name t c x = with_changed (λ k. record k { name = x }) t c

-- other bases
abbrev pub with_bases : {K : Type 0} → Classes K → ℕ → List ℕ → Classes K
with_bases t c bs = with_changed (λ k. record k { bases = bs }) t c

-- whether a class has no order while all its bases have one
abbrev pub is_blamed : {K : Type 0} → Classes K → ℕ → List ℕ → Bool
is_blamed t c bs = is_some (all_some (map (lin t) bs)) && is_none (lin t c)

abbrev pub blamed_along : {K : Type 0} → Classes K → List (Class K) → Option ℕ
blamed_along t [] = None
blamed_along t (k ∷ ks) = cond (is_blamed t k.number k.bases) (Some k.number) (blamed_along t ks)

-- whether one stands past the head of any of some lines
abbrev pub stands_past : ℕ → List (List ℕ) → Bool
stands_past b [] = false
stands_past b (l ∷ ls) = has (past_first l) b || stands_past b ls

-- whether a base stands past the head of a later base's linearisation
abbrev pub breaks_precedence : List ℕ → List (List ℕ) → Bool
breaks_precedence [] lines = false
breaks_precedence (b ∷ bs) [] = false
breaks_precedence (b ∷ bs) (l ∷ ls) = stands_past b ls || breaks_precedence bs ls

-- why some bases, whose linearisations are these, have no order: they stand in another order than one of them has, or they conflict otherwise
abbrev pub order_cause : List ℕ → List (List ℕ) → Cause
order_cause bs lines = cond (breaks_precedence bs lines) LocalPrecedence MroConflict

-- the least-numbered class with no order whose bases all have one, where one class's bases are replaced
abbrev pub failing_class : {K : Type 0} → Classes K → ℕ → List ℕ → Option ℕ
failing_class t c bs = let trial = with_bases t c bs in blamed_along trial trial

abbrev pub caused : {K : Type 0} → Classes K → ℕ → Option (ℕ × Cause)
caused t d = option_and_then (λ bs. option_map (λ lines. (d, order_cause bs lines)) (all_some (map (lin t) bs))) (bases_of t d)

-- the same, with the cause
abbrev pub failing : {K : Type 0} → Classes K → ℕ → List ℕ → Option (ℕ × Cause)
failing t c bs = option_and_then (caused (with_bases t c bs)) (failing_class t c bs)
