-- Whether there is a value.
use Rattle.order_check.proofs.Below.{false, Option, Some, None, refl, is_some}
use Rattle.std.proofs.Common.{◌≡◌}

pub none-of : {A : Type 0} (o : Option A) → is_some o ≡ false → o ≡ None
none-of None e = refl
none-of (Some x) e = cc
