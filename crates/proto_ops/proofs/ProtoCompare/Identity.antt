-- Whether two objects are one is not asked.
use Rattle.proto_ops.proofs.Below.{true, false, cond, Ok, ap, eqb, PyObjectRef, PlainWorld, AsTruth, DoBoolEq, DoIdEq, ToCompare, Told, ask, end, compare_job_say}
use Rattle.std.proofs.Common.{◌≡◌}

pub others-ask : (u : PlainWorld) (a b : PyObjectRef) (more : Told) → eqb a.0 b.0 ≡ false → compare_job_say u (DoIdEq a b) more ≡ ask u (ToCompare (DoBoolEq a b)) (end u) more
unfolding compare_job_say
others-ask u a b more e = ap (λ c. cond c (end u (Ok (AsTruth true))) (ask u (ToCompare (DoBoolEq a b)) (end u)) more) e
