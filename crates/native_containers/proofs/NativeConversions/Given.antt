-- What is taken where there may be one argument more.
use Rattle.native_containers.proofs.Below.{List, [], length, refl, arith, PyObjectRef, PlainWorld, Bindings, Said, with_one, with_two, with_one_at_most}
use Rattle.std.proofs.Common.{◌≡◌, ◌∷◌}

-- two are an object and an argument
pub two-given : (w : PlainWorld) (rs : List PyObjectRef) (kw : Bindings) (without : Said) (go : PyObjectRef → Said) → length rs ≡ 2 → with_one_at_most w rs kw without go ≡ with_two w rs kw (λ o a. go a)
two-given w [] kw without go e = refl
two-given w (o ∷ []) kw without go e = absurd (omega arith)
two-given w (o ∷ a ∷ []) kw without go e = refl
two-given w (o ∷ a ∷ b ∷ rs) kw without go e = refl

-- and else there is none
pub one-given : (w : PlainWorld) (rs : List PyObjectRef) (kw : Bindings) (without : Said) (go : PyObjectRef → Said) → (length rs ≡ 2 → ⊥) → with_one_at_most w rs kw without go ≡ with_one w rs kw (λ o. without)
one-given w [] kw without go e = refl
one-given w (o ∷ []) kw without go e = refl
one-given w (o ∷ a ∷ []) kw without go e = absurd (e refl)
one-given w (o ∷ a ∷ b ∷ rs) kw without go e = refl
