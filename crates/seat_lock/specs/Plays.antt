-- What each step on the table tells its seat, and how views are cut and joined.
use Rattle.seat_lock.specs.Below.{ℕ, List, [], Option, Some, All, Me, Step, rest}
use Rattle.std.specs.Prelude.{◌≡◌, ◌∷◌, ◌++◌}
use mathlib.Core.List.{IsPrefix}
use Rattle.seat_lock.specs.declared.history.Turn.{Turn}
use Rattle.seat_lock.specs.declared.board.Account.{Account}
use Rattle.seat_lock.specs.declared.board.View.{View}
use Rattle.seat_lock.specs.declared.board.Stage.{Stage}
use Rattle.seat_lock.specs.declared.board.Stage.TheVariants.{Idle, Waits, Holds}
use Rattle.seat_lock.specs.Rule.{account, Agrees}

abbrev pub ticket_of : Stage → ℕ
ticket_of Idle = 0
ticket_of (Waits t) = t
ticket_of (Holds t) = t

module _ {E : Type 0} where
  -- the turn goes behind those of the one account
  abbrev pub account_with : Turn E → List (Account E) → List (Account E)
  account_with t [] = []
  account_with t (a ∷ rows) = account a.number (a.made ++ t ∷ []) ∷ rows

-- what a seat has: its view, and the slot that it holds, if it does
abbrev pub Hand : Type 0 → Type 0 → Type 0
Hand T E = Me (Option T) (View E)

-- the history so far was seen, and the value that stands for it taken
pub record Served {T E : Type 0} (stands : T → List (Turn E) → Type 0) (m : Hand T E) (r : ℕ) (n : Hand T E) : Type 0 where
  pub value : T
  pub stands_for : stands value n.0.seen
  pub seen : IsPrefix m.0.seen n.0.seen
  pub own : All (Agrees n.0.seen) m.0.accounts
  pub holds : n ≡ (record m.0 { stage = Holds r; seen = n.0.seen }, (0, Some value) ∷ [])

-- the history so far was seen, which begins with what was seen and with what was told
pub record Sees {T E : Type 0} (m n : Hand T E) : Type 0 where
  pub seen : IsPrefix m.0.seen n.0.seen
  pub told : IsPrefix m.0.told n.0.seen
  pub own : All (Agrees n.0.seen) m.0.accounts
  pub else_same : n ≡ (record m.0 { seen = n.0.seen; told = [] }, m.1)

module _ {T E : Type 0} where
  -- it has the ticket that was found
  abbrev pub drawn : Step (Option T) → Hand T E → ℕ → Hand T E → Type 0
  drawn s m r n = n ≡ (record m.0 { stage = Waits r }, m.1)

  -- its ticket is served, or nothing has changed
  abbrev pub looked : (T → List (Turn E) → Type 0) → Step (Option T) → Hand T E → ℕ → Hand T E → Type 0
  looked stands s m r n = (r ≡ ticket_of m.0.stage → Served stands m r n) × (¬ (r ≡ ticket_of m.0.stage) → n ≡ m)

  -- the turn was made, and the value given back
  abbrev pub left_turn : Turn E → Step (Option T) → Hand T E → ℕ → Hand T E → Type 0
  left_turn t s m r n = n ≡ (record m.0 { stage = Idle; seen = m.0.seen ++ t ∷ []; accounts = account_with t m.0.accounts }, rest m.1)

  abbrev pub learnt : Step (Option T) → Hand T E → ℕ → Hand T E → Type 0
  learnt s m r n = Sees m n

module _ {E : Type 0} where
  abbrev pub first_of : List (Account E) → List (Account E)
  first_of [] = []
  first_of (a ∷ rows) = a ∷ []

  abbrev pub others_of : List (Account E) → List (Account E)
  others_of [] = []
  others_of (a ∷ rows) = rows

  -- a new seat with the first of these accounts, and what is left
  abbrev pub with_first : View E → View E
  with_first v = record { stage = Idle; seen = v.seen; told = []; accounts = first_of v.accounts }

  abbrev pub without_first : View E → View E
  without_first v = record v { accounts = others_of v.accounts }

  -- a copy that makes no turn
  abbrev pub copied : View E → View E
  copied v = record { stage = Idle; seen = v.seen; told = []; accounts = [] }

  -- both, where the second is idle: its accounts go in front
  abbrev pub joined : View E → View E → View E
  joined v w = record { stage = v.stage; seen = v.seen; told = w.seen; accounts = w.accounts ++ v.accounts }

  abbrev pub spent : View E
  spent = record { stage = Idle; seen = []; told = []; accounts = [] }
