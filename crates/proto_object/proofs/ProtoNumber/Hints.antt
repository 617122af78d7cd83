-- How the row of an expected length goes on where there is no length.
use Rattle.proto_object.proofs.Below.{◌∙◌, true, cond, Option, Result, Err, ap, ℤ, Raised as Fault, PyObjectRef, Answer, PlainWorld, Told, end, ended_of, expected_say, hint_rest, is_type_error}
use Rattle.std.proofs.Common.{◌≡◌}

pub hint-expects : (u : PlainWorld) (o : PyObjectRef) (d : Option ℤ) (r : Result Answer Fault) (x : Fault) (more : Told) → r ≡ Err x → is_type_error x.kind ≡ true → hint_rest u o d (ended_of r) more ≡ expected_say u o d more
hint-expects u o d r x more is e =
    ap (λ y. hint_rest u o d (ended_of y) more) is ∙ ap (λ b. cond b (expected_say u o d) (end u (Err x)) more) e
