-- What holds of a refusal.
use Rattle.order_check.proofs.Below.{Result, Err, IfErr}
use Rattle.std.specs.Prelude.{Ok}

-- a fact that holds anyway
pub if-err : {A E P : Type 0} (r : Result A E) → P → IfErr r (λ e. P)
if-err (Ok a) p = tt
if-err (Err e) p = p
