-- What a seat has after it signed.
use Rattle.seat_example.specs.Below.{ℕ, length, MOST_TURNS, TableId, Known, IsFree}
use Rattle.std.specs.Prelude.{◌≡◌, ◌+◌, ◌≤◌}

-- a free seat of this lock that has so many turns left
abbrev pub MaySign : TableId → ℕ → Known ℕ → Type 0
MaySign id rounds seat = IsFree id seat × (length seat.made + rounds ≤ MOST_TURNS)

-- it is the same seat, free, and has made so many turns more
pub record Signed (id : TableId) (rounds : ℕ) (old new : Known ℕ) : Type 0 where
  pub free : IsFree id new
  pub number : new.number ≡ old.number
  pub made : length new.made ≡ length old.made + rounds
