-- What a contract says of a lock and of a seat.
use Rattle.seat_lock.specs.Below.{ℕ, Bool, false, List, []}
use Rattle.std.specs.Prelude.{◌≡◌, ◌∷◌, ◌++◌}
pub use Rattle.atomic_table.specs.Seated.{TableId}
use Rattle.seat_lock.specs.declared.history.Turn.{Turn}

-- which lock it is, and how many seats it was made with
pub record Lock : Type 0 where
  pub id : TableId
  pub seats : ℕ

-- the lock that it is of, its number, the turns that it made, the beginning of the history that it has seen, and whether it is in a turn
pub record Known (E : Type 0) : Type 0 where
  pub lock : TableId
  pub number : ℕ
  pub made : List (Turn E)
  pub seen : List (Turn E)
  pub in_turn : Bool

module _ {E : Type 0} where
  -- a seat that has seen and made no turn
  abbrev pub fresh_seat : TableId → ℕ → Known E
  fresh_seat id number = record { lock = id; number = number; made = []; seen = []; in_turn = false }

  -- it is a seat of this lock, and in no turn
  abbrev pub IsFree : TableId → Known E → Type 0
  IsFree id s = (s.lock ≡ id) × (s.in_turn ≡ false)

  -- it is the same seat, and made the same turns
  abbrev pub IsSameSeat : Known E → Known E → Type 0
  IsSameSeat old new = (new.lock ≡ old.lock) × (new.number ≡ old.number) × (new.made ≡ old.made)

  -- the seat once it has made the turn that it was in
  abbrev pub with_turn : Known E → Turn E → Known E
  with_turn s turn = record { lock = s.lock; number = s.number; made = s.made ++ turn ∷ []; seen = s.seen ++ turn ∷ []; in_turn = false }
