-- How names get values in order, as a reading has them.
use Rattle.class_world.proofs.Below.{ℕ, zero, suc, List, [], length, drop, min, get_or, map, Option, Some, None, refl, sym, ap, ◌∙◌, subst, arith, PyObjectRef, PyStrInterned, with_value, is_same_name, two_of, filled, Bindings, is_text, Held, Reading, spelled, bindings, IsName, AreNames, IsNode, AreNodes, Holds}
use Rattle.std.proofs.Common.{◌≡◌, ◌<◌, ◌∷◌}
use Rattle.class_world.proofs.Bound.{with_value-read}
use Rattle.class_world.proofs.Claims.{node-in}

abbrev Names : Type 0
Names = List PyStrInterned

abbrev Bound : Type 0
Bound = List (PyStrInterned × PyObjectRef)

-- one name of a list, and one node
pub name-at : (w : Held) (xs : Names) (n : ℕ) (x : PyStrInterned) → Holds w (AreNames xs) → n < length xs → x ≡ get_or xs n x → Holds w (IsName x)
unfolding Holds
name-at w xs n x h l e = subst (λ y. y.0 < length w.names) (sym e) (h n x l)

pub node-at : (w : Held) (rs : List PyObjectRef) (n : ℕ) (r : PyObjectRef) → Holds w (AreNodes rs) → n < length rs → r ≡ get_or rs n r → Holds w (IsNode r)
unfolding Holds
node-at w rs n r h l e = subst (λ y. y.0 < length w.nodes) (sym e) (h n r l)

abbrev pair_or : PyObjectRef → Option (PyObjectRef × PyObjectRef) → PyObjectRef × PyObjectRef
pair_or r None = (r, r)
pair_or r (Some p) = p

-- two objects are there where all are
pub two-hold : (w : Held) (vs : List PyObjectRef) (a b : PyObjectRef) → Holds w (AreNodes vs) → two_of vs ≡ Some (a, b) → Holds w (IsNode a) × Holds w (IsNode b)
two-hold w [] a b h e = cc
two-hold w (v ∷ []) a b h e = cc
two-hold w (v ∷ (u ∷ [])) a b h e =
    (subst (λ r. Holds w (IsNode r)) (ap (λ o. (pair_or a o).0) e) (node-in w (v ∷ (u ∷ [])) 0 v h refl), subst (λ r. Holds w (IsNode r)) (ap (λ o. (pair_or a o).1) e) (node-in w (v ∷ (u ∷ [])) 1 u h refl))
two-hold w (v ∷ (u ∷ (x ∷ vs))) a b h e = cc

module _ (t : Reading) where
  -- one more name has its value
  pub filled-step : (vars : Bound) (xs : Names) (args : List PyObjectRef) (n : ℕ) (x : PyStrInterned) (v : PyObjectRef) → n < length xs → n < length args → x ≡ get_or xs n x → v ≡ get_or args n v → filled (bindings t (with_value is_same_name vars x v)) (map (spelled t) (drop (suc n) xs)) (drop (suc n) args) ≡ filled (bindings t vars) (map (spelled t) (drop n xs)) (drop n args)
  filled-step vars [] args n x v l m e f = absurd (omega arith)
  filled-step vars (y ∷ xs) [] n x v l m e f = absurd (omega arith)
  filled-step vars (y ∷ xs) (u ∷ args) zero x v l m e f =
      ap (λ vs. filled vs (map (spelled t) xs) args) (with_value-read t vars x v)
      ∙ ap (λ (k : PyStrInterned). filled (with_value is_text (bindings t vars) (spelled t k) v) (map (spelled t) xs) args) e
      ∙ ap (λ (r : PyObjectRef). filled (with_value is_text (bindings t vars) (spelled t y) r) (map (spelled t) xs) args) f
  filled-step vars (y ∷ xs) (u ∷ args) (suc n) x v l m e f = filled-step vars xs args n x v (omega arith) (omega arith) e f

  -- no name is left, or no value
  pub filled-end : (vars : Bindings) (xs : Names) (args : List PyObjectRef) (n : ℕ) → n ≡ min (length xs) (length args) → filled vars (map (spelled t) (drop n xs)) (drop n args) ≡ vars
  filled-end vars [] args zero e = refl
  filled-end vars [] args (suc n) e = absurd (omega arith)
  filled-end vars (x ∷ xs) [] zero e = refl
  filled-end vars (x ∷ xs) [] (suc n) e = absurd (omega arith)
  filled-end vars (x ∷ xs) (v ∷ args) zero e = absurd (omega arith)
  filled-end vars (x ∷ xs) (v ∷ args) (suc n) e = filled-end vars xs args n (omega arith)
