-- The numbers that are drawn: from each state the next one follows, and a draw is a part of it.
use Rattle.generator.specs.Below.{ℕ, zero, suc}
use Rattle.std.specs.Prelude.{◌+◌, ◌*◌, ◌/◌, ◌%◌, ◌^◌}

-- the state that follows a state
unfoldable pub next : ℕ → ℕ
next x = (x * 6364136223846793005 + 1442695040888963407) % 2 ^ 64

-- the state after so many draws
abbrev pub after : ℕ → ℕ → ℕ
after zero x = x
after (suc n) x = next (after n x)

-- what is drawn of the numbers below k where a draw leaves this state: its bits from the 33rd on decide
abbrev pub drawn : ℕ → ℕ → ℕ
drawn k x = x / 2 ^ 33 % k

-- the n-th draw from a state on, of the numbers below k
abbrev pub draw : ℕ → ℕ → ℕ → ℕ
draw n x k = drawn k (after n x)
