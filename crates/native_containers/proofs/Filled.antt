-- A dict that is filled from another one, and then from keywords.
use Rattle.native_containers.proofs.Below.{List, [], length, get_or, refl, arith, PyObjectRef, PlainWorld, Bindings, dict_filled, dict_updated, names_set}
use Rattle.std.proofs.Common.{◌≡◌, ◌∷◌}

-- two arguments are the dict and another one
pub two-filled : (w : PlainWorld) (d : PyObjectRef) (args : List PyObjectRef) (kw : Bindings) (x : PyObjectRef) → length args ≡ 2 → dict_filled w d args kw ≡ dict_updated w d (get_or args 1 x) (λ u. names_set u d kw)
two-filled w d [] kw x l = absurd (omega arith)
two-filled w d (a ∷ []) kw x l = absurd (omega arith)
two-filled w d (a ∷ o ∷ []) kw x l = refl
two-filled w d (a ∷ o ∷ b ∷ args) kw x l = absurd (omega arith)
