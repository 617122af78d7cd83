-- What the checked sum of the code gives.
use Rattle.proto_ops.proofs.Below.{cond, Option, Some, None, sym, ap, ◌∙◌, ℤ, SomeIff, w128, FitsSigned, fits-true, fits-false, total}
use Rattle.std.proofs.Common.{◌≡◌}
use Rattle.std.specs.Prelude.{◌+ℤ◌}

pub total-is : (x y : ℤ) (o : Option ℤ) → SomeIff o (FitsSigned w128 (x +ℤ y)) (x +ℤ y) → o ≡ total x y
total-is x y None h = sym (ap (λ b. cond b (Some (x +ℤ y)) None) (fits-false (x +ℤ y) h))
total-is x y (Some z) h = ap Some h.1 ∙ sym (ap (λ b. cond b (Some (x +ℤ y)) None) (fits-true (x +ℤ y) h.0))
