-- The classes along the linearisation of a class.
use Rattle.proto_attr.proofs.Below.{ℕ, List, get_or, Some, true, All, PyStrInterned, PyTypeRef, Classes, lin, is_class, lin-classes, numbers, held-at}
use Rattle.std.proofs.Common.{◌≡◌}

-- each is there
pub line-classes : (t : Classes PyStrInterned) (c : ℕ) (line : List PyTypeRef) → lin t c ≡ Some (numbers line) → All (λ d. is_class t d.0 ≡ true) line
line-classes t c line e = λ i d l. lin-classes t c (numbers line) (get_or line i d).0 e (held-at line i d l)
