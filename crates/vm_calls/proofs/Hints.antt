-- What is told of a number that may be missing, and of True and False.
use Rattle.vm_calls.proofs.Below.{ℕ, Bool, true, false, eqb, Option, Some, None, IsTrue, inl, inr, refl, sym, ap, unwrap_or, eqb-true, PyObjectRef, Answer, fixed_false, fixed_true, truth, ref, is_truth_value, IsHint, IsHintOr}
use Rattle.std.proofs.Common.{◌≡◌, ◌||◌}

-- a hint, or what stands for it
pub hint_or : (d : ℕ) (h : Option ℕ) (a : Answer) → IsHint h a → IsHintOr d (unwrap_or h d) a
hint_or d (Some n) a h = inl h
hint_or d None a h = inr (h, refl)

known_truth : (n : ℕ) (t f : Bool) → eqb n fixed_true ≡ t → eqb n fixed_false ≡ f → IsTrue (t || f) → truth t ≡ ref n
known_truth n true f e h s = ap ref (sym (eqb-true n fixed_true e))
known_truth n false true e h s = ap ref (sym (eqb-true n fixed_false h))
known_truth n false false e h s = absurd (let no : ⊥ = cc s in no)

-- True or False is the object of whether it is True
pub truth_told : (r : PyObjectRef) → IsTrue (is_truth_value r) → truth (eqb r.0 fixed_true) ≡ r
truth_told r s = known_truth r.0 (eqb r.0 fixed_true) (eqb r.0 fixed_false) refl refl s
