-- How the chain of best bases goes on, where a best base is kept.
use Rattle.class_table.proofs.Below.{ℕ, true, Option, Some, None, IfSome, PyTypeRef, Classes, is_class, base, AreSound, base-class}
use Rattle.std.proofs.Common.{◌≡◌}
use Rattle.class_table.specs.Keys.{number_of}

-- the best base is a class
pub base-there : {K : Type 0} (t : Classes K) → AreSound t → (c : ℕ) (b : Option PyTypeRef) → base t c ≡ number_of b → IfSome b (λ d. is_class t d.0 ≡ true)
base-there t sound c None e = tt
base-there t sound c (Some d) e = base-class t sound c d.0 e
