-- How the row goes on by which an object tells that it is not equal to another.
use Rattle.proto_call.proofs.Below.{[], false, not, cond, ap, Ne, PyObjectRef, PlainWorld, Told, Answered, DoIsTrue, DoObject, ToProtocol, ask, end, is_not_implemented, on_truth, truth, value, call_job_say}
use Rattle.std.proofs.Common.{◌≡◌, ◌∷◌}

pub turned-asks : (u : PlainWorld) (x : PyObjectRef) (more : Told) → is_not_implemented x ≡ false → call_job_say u (DoObject Ne [] []) (Answered (value x) ∷ more) ≡ ask u (ToProtocol (DoIsTrue x)) (λ r. on_truth u r (λ b. end u (value (truth (not b))))) more
unfolding call_job_say
turned-asks u x more e =
    ap (λ b. cond b (end u (value x)) (ask u (ToProtocol (DoIsTrue x)) (λ r. on_truth u r (λ b. end u (value (truth (not b)))))) more) e
