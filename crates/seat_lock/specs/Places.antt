-- What the steps of a seat come to.
use Rattle.seat_lock.specs.Below.{ℕ, Bool, true, false, List, [], Option, None, All, TableId, Seat}
use Rattle.std.specs.Prelude.{◌≡◌, ◌+◌, ◌*◌, ◌≤◌, ◌∷◌, ◌++◌}
use mathlib.Core.List.{IsPrefix}
use Rattle.seat_lock.specs.declared.history.Turn.{Turn}
use Rattle.seat_lock.specs.declared.seat.TheConstants.{MOST_TURNS}
use Rattle.seat_lock.specs.declared.board.Account.{Account}
use Rattle.seat_lock.specs.declared.board.View.{View}
use Rattle.seat_lock.specs.declared.board.Stage.{Stage}
use Rattle.seat_lock.specs.declared.board.Stage.TheVariants.{Idle, Waits, Holds}
use Rattle.seat_lock.specs.Rule.{account, turns_made, seats_of, Agrees}
use Rattle.seat_lock.specs.Plays.{account_with}

-- a seat at the table
abbrev pub Place : Type 0 → Type 0 → Type 0
Place T E = Seat (Option T) (View E)

-- the table has two words and one slot
abbrev pub IsSized : TableId → Type 0
IsSized id = (id.words ≡ 2) × (id.slots ≡ 1)

abbrev pub is_held : Stage → Bool
is_held Idle = false
is_held (Waits t) = false
is_held (Holds t) = true

-- the turns of the one account
abbrev pub made_of : {E : Type 0} → List (Account E) → List (Turn E)
made_of [] = []
made_of (a ∷ rows) = a.made

-- what a seat has of the slot at rest and in a turn; it waits only within a call
abbrev pub Held : {T : Type 0} → List (ℕ × Option T) → Stage → Type 0
Held slots Idle = slots ≡ []
Held slots (Waits t) = ⊥
Held slots (Holds t) = slots ≡ (0, None) ∷ []

module _ {T E : Type 0} where
  -- it is at this table, which is one of a lock
  abbrev pub IsAt : TableId → Place T E → Type 0
  IsAt id p = (p.table_id ≡ id) × IsSized id

  abbrev pub IsIdle : Place T E → Type 0
  IsIdle p = (p.me.0.stage ≡ Idle) × (p.me.1 ≡ [])

  -- it may draw one ticket more
  abbrev pub MayDraw : Place T E → Type 0
  MayDraw p = turns_made p.me.0 + 1 ≤ MOST_TURNS * seats_of p.me.0

  -- it has one account, of the number by
  abbrev pub IsSingle : ℕ → Place T E → Type 0
  IsSingle by p = (made : List (Turn E)) × (p.me.0.accounts ≡ account by made ∷ [])

-- it has the turn and the value x, which stands for the history so far
pub record Taken {T E : Type 0} (stands : T → List (Turn E) → Type 0) (p q : Place T E) (x : T) : Type 0 where
  pub at : q.table_id ≡ p.table_id
  pub holds : (t : ℕ) × (q.me ≡ (record p.me.0 { stage = Holds t; seen = q.me.0.seen }, (0, None) ∷ []))
  pub value : stands x q.me.0.seen
  pub seen : IsPrefix p.me.0.seen q.me.0.seen
  pub own : All (Agrees q.me.0.seen) p.me.0.accounts

-- it has made the turn
pub record Left {T E : Type 0} (turn : Turn E) (p q : Place T E) : Type 0 where
  pub at : q.table_id ≡ p.table_id
  pub rests : q.me ≡ (record p.me.0 { stage = Idle; seen = p.me.0.seen ++ turn ∷ []; accounts = account_with turn p.me.0.accounts }, [])

-- it has taken in o, and all that both had seen begins what it has seen
pub record Learnt {T E : Type 0} (p o q : Place T E) : Type 0 where
  pub at : q.table_id ≡ p.table_id
  pub has : q.me ≡ (record p.me.0 { seen = q.me.0.seen; told = []; accounts = o.me.0.accounts ++ p.me.0.accounts }, p.me.1)
  pub seen : IsPrefix p.me.0.seen q.me.0.seen
  pub told : IsPrefix o.me.0.seen q.me.0.seen
  pub own : All (Agrees q.me.0.seen) (o.me.0.accounts ++ p.me.0.accounts)
