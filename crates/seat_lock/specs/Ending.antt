-- What seats that were taken in come to.
use Rattle.seat_lock.specs.Below.{List, map, All, TableId}
use Rattle.std.specs.Prelude.{◌≡◌}
use mathlib.Core.List.{IsPrefix}
use Rattle.seat_lock.specs.declared.board.Account.{Account}
use Rattle.seat_lock.specs.Rule.{account}
use Rattle.seat_lock.specs.Places.{Place, IsIdle}
use Rattle.seat_lock.specs.Known.{Known}

abbrev pub account_of : {E : Type 0} → Known E → Account E
account_of s = account s.number s.made

-- a seat that has taken in these, in their order
pub record Gathered {T E : Type 0} (id : TableId) (seats : List (Known E)) (p : Place T E) : Type 0 where
  pub at : p.table_id ≡ id
  pub idle : IsIdle p
  pub accounts : p.me.0.accounts ≡ map account_of seats
  pub seen : All (λ s. IsPrefix s.seen p.me.0.seen) seats
