-- The rule of the table under the lock: a ticket lock, whose turns form one history.
use Rattle.seat_lock.specs.Below.{ℕ, zero, suc, List, [], length, Option, Some, All, State}
use Rattle.std.specs.Prelude.{◌≡◌, ◌+◌, ◌*◌, ◌<◌, ◌≤◌, ◌⊎◌, ◌∷◌}
use mathlib.Core.Option.{some, none}
use mathlib.Core.List.{IsPrefix}
use lib.ListN.{get_elem?}
use Rattle.seat_lock.specs.declared.history.Turn.{Turn}
use Rattle.seat_lock.specs.declared.board.Account.{Account}
use Rattle.seat_lock.specs.declared.board.View.{View}
use Rattle.seat_lock.specs.declared.board.Stage.{Stage}
use Rattle.seat_lock.specs.declared.board.Stage.TheVariants.{Idle, Waits, Holds}
use Rattle.seat_lock.specs.declared.seat.TheConstants.{MOST_TURNS}
use Rattle.seat_lock.specs.History.{turns_by}

-- the sum of f over the views
abbrev pub total : {V : Type 0} → (V → ℕ) → List V → ℕ
total f [] = 0
total f (v ∷ vs) = f v + total f vs

-- 1 where the seat has a ticket
abbrev pub ticket_count : Stage → ℕ
ticket_count Idle = 0
ticket_count (Waits t) = 1
ticket_count (Holds t) = 1

abbrev pub account : {E : Type 0} → ℕ → List (Turn E) → Account E
account number made = record { number = number; made = made }

-- accounts with no turn, of the numbers from k on
abbrev pub blank_from : {E : Type 0} → ℕ → ℕ → List (Account E)
blank_from k zero = []
blank_from k (suc n) = account k [] ∷ blank_from (suc k) n

module _ {E : Type 0} where
  abbrev pub tickets : View E → ℕ
  tickets v = ticket_count v.stage

  -- how many turns its accounts have
  abbrev pub turns_made : View E → ℕ
  turns_made v = total (λ a. length a.made) v.accounts

  abbrev pub seats_of : View E → ℕ
  seats_of v = length v.accounts

  -- a view that has n accounts with no turn, of the numbers from k on
  abbrev pub blank_view : ℕ → ℕ → View E
  blank_view k n = record { stage = Idle; seen = []; told = []; accounts = blank_from k n }

  -- the view of the first seat, which has the account of each number
  abbrev pub founder : ℕ → View E
  founder seats = blank_view 0 seats

  module _ (log : List (Turn E)) (ticket : ℕ) (drawer : ℕ → ℕ) (id : ℕ) (seen : List (Turn E)) where
    -- what a stage says: who waits has a ticket that isn't served yet, and who holds the slot has seen all
    abbrev pub InStage : Stage → Type 0
    InStage Idle = Unit {0}
    InStage (Waits t) = (drawer t ≡ id) × (length log ≤ t) × (t < ticket)
    InStage (Holds t) = (drawer t ≡ id) × (length log ≡ t) × (t < ticket) × (seen ≡ log)

-- the turns of the history under a number are those of its account
abbrev pub Agrees : {E : Type 0} → List (Turn E) → Account E → Type 0
Agrees log a = turns_by a.number log ≡ a.made

-- the number of an account, and that of a turn, is one of the first n
abbrev pub IsBelow : {E : Type 0} → ℕ → Account E → Type 0
IsBelow n a = a.number < n

abbrev pub ByBelow : {E : Type 0} → ℕ → Turn E → Type 0
ByBelow n t = t.by < n

-- what the rule says of one view
pub record Fits {E : Type 0} (log : List (Turn E)) (ticket : ℕ) (owner drawer : ℕ → ℕ) (id : ℕ) (v : View E) : Type 0 where
  -- what it has seen, and what it was told, begins the history
  pub seen : IsPrefix v.seen log
  pub told : IsPrefix v.told log
  -- its numbers are its own, and the turns under each are those that it made
  pub owned : All (λ a. (owner a.number ≡ id) × Agrees log a) v.accounts
  -- its turns, with the one for which it has a ticket, are no more than its seats may make
  pub few : turns_made v + tickets v ≤ MOST_TURNS * seats_of v
  pub stage : InStage log ticket drawer id v.seen v.stage

module _ {T E : Type 0} (stands : T → List (Turn E) → Type 0) where
  -- the value is at home and stands for the history, and no seat holds it; or the seat of the ticket that is served holds it
  abbrev pub IsPlaced : List (Turn E) → List (mathlib.Core.Option.Option (Option T)) → List (View E) → Type 0
  IsPlaced log homes views =
      ((x : T) × (homes ≡ some (Some x) ∷ []) × stands x log × ((j : ℕ) (v : View E) → get_elem? views j ≡ some v → (t : ℕ) → ¬ (v.stage ≡ Holds t)))
      ⊎ ((homes ≡ none ∷ []) × ((j : ℕ) × (v : View E) × (get_elem? views j ≡ some v) × (v.stage ≡ Holds (length log))))

-- There is one history. `owner` says which seat has each number, and `drawer` which has each ticket
pub record HasOneHistory {T E : Type 0} (stands : T → List (Turn E) → Type 0) (seats : ℕ) (s : State (Option T) (View E)) : Type 0 where
  pub log : List (Turn E)
  pub owner : ℕ → ℕ
  pub drawer : ℕ → ℕ
  -- the ticket that is served is the number of turns, and with the number of seats that have a ticket it is the next ticket
  pub words_are : s.words ≡ (length log + total tickets s.views) ∷ length log ∷ []
  -- each turn was made by one seat
  pub made : total turns_made s.views ≡ length log
  -- there are as many numbers as seats
  pub seats_are : total seats_of s.views ≡ seats
  pub few : seats < 4294967296
  pub numbers : (j : ℕ) (v : View E) → get_elem? s.views j ≡ some v → All (IsBelow seats) v.accounts
  pub by_seats : All (ByBelow seats) log
  pub each : (j : ℕ) (v : View E) → get_elem? s.views j ≡ some v → Fits log (length log + total tickets s.views) owner drawer j v
  pub placed : IsPlaced stands log s.homes s.views
