-- Pieces of a list, one after another.
use Rattle.outside.proofs.Below.{ℕ, List, length, take, drop, refl, append_assoc, take-add, take_rest}
use Rattle.std.proofs.Common.{◌≡◌, ◌+◌, ◌-◌, ◌++◌}

-- a front of n more is the front, and then n of the others
pub taken_more : (old bytes : List ℕ) (at n : ℕ) → (old ++ take at bytes) ++ take n (take (length bytes - at) (drop at bytes)) ≡ old ++ take (at + n) bytes
taken_more old bytes at n = rw (take_rest, take-add, append_assoc) refl
