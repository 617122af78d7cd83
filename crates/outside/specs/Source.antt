-- What a read moves, and what a source has still to give.
use Rattle.outside.specs.Below.{ℕ, List, length, take, drop, Option, Some}
use Rattle.std.specs.Prelude.{◌≡◌, ◌≤◌, ◌++◌}

-- n of these bytes have moved, from their front to the buffer's front, and the rest is what is left
pub record Moves (bytes : List ℕ) (left : Option (List ℕ)) (buffer filled : List ℕ) (n : ℕ) : Type 0 where
  pub enough : n ≤ length bytes
  pub moved : filled ≡ take n bytes ++ drop n buffer
  pub rest : left ≡ Some (drop n bytes)
