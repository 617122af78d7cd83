-- Histories of turns, and what the seats of a lock have of the whole one.
use Rattle.seat_lock.specs.Below.{ℕ, List, length, All, filter, sum_by}
use Rattle.std.specs.Prelude.{◌≡◌, ◌==◌, ◌<◌}
use mathlib.Core.List.{IsPrefix}
use Rattle.seat_lock.specs.declared.history.Turn.{Turn}
use Rattle.seat_lock.specs.Known.{Known}

-- the turns that were made under a number, in their order
abbrev pub turns_by : {E : Type 0} → ℕ → List (Turn E) → List (Turn E)
turns_by by log = filter (λ t. t.by == by) log

-- the history is the whole one of a lock that was made with so many seats, and these are all of them
pub record IsWhole {E : Type 0} (seats : ℕ) (rows : List (Known E)) (log : List (Turn E)) : Type 0 where
  -- what each seat has seen begins it
  pub seen : All (λ s. IsPrefix s.seen log) rows
  -- under a seat's number it has the turns that this seat made
  pub own : All (λ s. turns_by s.number log ≡ s.made) rows
  -- it has no turn of another number
  pub by_seats : All (λ t. t.by < seats) log
  -- it is as long as all that the seats made
  pub count : sum_by (λ s. length s.made) rows ≡ length log
