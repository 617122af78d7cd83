-- The last value of some.
use Rattle.proto_call.proofs.Below.{suc, List, [], length, slice_index_or, Some, refl, ap, sym, ◌∙◌, arith, slice_get, PyObjectRef, last_or_none}
use Rattle.std.proofs.Common.{◌≡◌, ◌-◌, ◌≤◌, ◌<◌, ◌∷◌}

pub last-is : (vs : List PyObjectRef) (v : PyObjectRef) → slice_get vs (length vs - 1) ≡ Some v → last_or_none vs ≡ v
last-is [] v h = cc
last-is (a ∷ []) v h = cc
last-is (a ∷ (b ∷ vs)) v h =
    let below : length (a ∷ (b ∷ vs)) - 1 ≡ suc (length (b ∷ vs) - 1) = omega arith in
    last-is (b ∷ vs) v (ap (slice_get (a ∷ (b ∷ vs))) (sym below) ∙ h)

-- a list of one, of two and of three
pub one-item : (vs : List PyObjectRef) (d : PyObjectRef) → 1 ≤ length vs → length vs < 2 → vs ≡ slice_index_or vs 0 d ∷ []
one-item [] d h l = absurd (omega arith)
one-item (a ∷ []) d h l = refl
one-item (a ∷ (b ∷ vs)) d h l = absurd (omega arith)

pub two-items : (vs : List PyObjectRef) (d : PyObjectRef) → 2 ≤ length vs → length vs < 3 → vs ≡ slice_index_or vs 0 d ∷ (slice_index_or vs 1 d ∷ [])
two-items [] d h l = absurd (omega arith)
two-items (a ∷ []) d h l = absurd (omega arith)
two-items (a ∷ (b ∷ [])) d h l = refl
two-items (a ∷ (b ∷ (e ∷ vs))) d h l = absurd (omega arith)

pub three-items : (vs : List PyObjectRef) (d : PyObjectRef) → 3 ≤ length vs → length vs < 4 → vs ≡ slice_index_or vs 0 d ∷ (slice_index_or vs 1 d ∷ (slice_index_or vs 2 d ∷ []))
three-items [] d h l = absurd (omega arith)
three-items (a ∷ []) d h l = absurd (omega arith)
three-items (a ∷ (b ∷ [])) d h l = absurd (omega arith)
three-items (a ∷ (b ∷ (e ∷ []))) d h l = refl
three-items (a ∷ (b ∷ (e ∷ (f ∷ vs)))) d h l = absurd (omega arith)
