-- A lock and a seat as contracts see them, and what always holds of each.
use Rattle.seat_lock.specs.Below.{[], length}
use Rattle.std.specs.Prelude.{◌≡◌, ◌+◌, ◌<◌, ◌≤◌, ◌∷◌}
use Rattle.seat_lock.specs.declared.lock.SeatLock.TheInside as lock
use Rattle.seat_lock.specs.declared.seat.LockSeat.TheInside as seat
use Rattle.seat_lock.specs.History.{turns_by}
use Rattle.seat_lock.specs.declared.seat.TheConstants.{MOST_TURNS}
use Rattle.seat_lock.specs.Rule.{account, ticket_count}
use Rattle.seat_lock.specs.Places.{made_of, is_held, Held}
use Rattle.seat_lock.specs.Known.{Lock, Known}

module _ {T E : Type 0} where
  abbrev pub lock_of : lock.Inside T E → Lock
  lock_of s = record { id = s.table.shared.table_id; seats = s.table.shared.key }

  abbrev pub IsLock : lock.Inside T E → Type 0
  IsLock s = (s.table.shared.table_id.words ≡ 2) × (s.table.shared.table_id.slots ≡ 1) × (0 < s.table.shared.key)

  abbrev pub known : seat.Inside T E → Known E
  known s = record { lock = s.place.table_id; number = s.number; made = made_of s.place.me.0.accounts; seen = s.place.me.0.seen; in_turn = is_held s.place.me.0.stage }

-- It has one account, whose turns it counts and has seen, and holds the slot just while it is in a turn
pub record IsOwn {T E : Type 0} (s : seat.Inside T E) : Type 0 where
  pub account_is : s.place.me.0.accounts ≡ account s.number (made_of s.place.me.0.accounts) ∷ []
  pub counted : s.made ≡ length (made_of s.place.me.0.accounts)
  pub room : s.made + ticket_count s.place.me.0.stage ≤ MOST_TURNS
  pub own : turns_by s.number s.place.me.0.seen ≡ made_of s.place.me.0.accounts
  pub held : Held s.place.me.1 s.place.me.0.stage
