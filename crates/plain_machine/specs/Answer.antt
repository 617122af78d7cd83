-- What a task answers: its row is followed until it ends. And what a list of commands is answered.
use Rattle.plain_machine.specs.Below.{ℕ, zero, suc, List, [], nat_lt, cond, length, Ok, Err, DepthLimit, Tree, PlainReply, GivesValue, GivesRaise, GivesBudget, PlainReplyAnswer as Answering}
use Rattle.std.specs.Prelude.{◌∷◌, ◌++◌}
use Rattle.plain_machine.specs.Plain.{PlainWorld, DoEval, PlainTask, ToEval, AsValue, Ended, Answered, Told, Said, Asks, Ends, Saying}
use Rattle.plain_machine.specs.World.{at_depth, without_calls}
use Rattle.plain_machine.specs.Row.{fault, none}
use Rattle.plain_machine.specs.Show.{show}

-- how a command comes out: its row ended, or its units were used up
pub data Ending : Type 0 where
  Over : Ended → Ending
  NoUnits : Ending

-- the world in the end, how it ended, and the units left
pub data Outcome : Type 0 where
  Out : PlainWorld → Ending → ℕ → Outcome

-- the outcome of a task that has learnt something, with units left, at a depth
abbrev pub Follow : Type 0
Follow = PlainWorld → PlainTask → Told → ℕ → ℕ → Outcome

-- goes on with an answer. Where the units are used up, all ends
abbrev pub carry : (PlainWorld → Ended → ℕ → Outcome) → Outcome → Outcome
carry go (Out w (Over r) left) = go w r left
carry go (Out w NoUnits left) = Out w NoUnits left

-- an asked task's outcome, where no task stands at depth 1000
abbrev pub asked : Follow → PlainWorld → PlainTask → ℕ → ℕ → Outcome
asked self w task left depth =
    cond (nat_lt depth 1000) (self w task [] left depth) (Out w (Over (fault DepthLimit)) left)

-- what follows from what a row says. An ask spends a unit, and with none left the command is over
abbrev pub step : Follow → PlainTask → Told → ℕ → Said → ℕ → Outcome
step self task told depth (Ends w r) left = Out w (Over r) left
step self task told depth (Asks w learnt other) zero = Out w NoUnits zero
step self task told depth (Asks w learnt other) (suc left) =
    carry (λ w r left. self w task ((told ++ learnt) ++ Answered r ∷ []) left depth) (asked self w other left (suc depth))

-- as `reach`, for fewer units than n
unfoldable pub follow : Saying PlainTask → ℕ → Follow
follow say zero w task told left depth = Out w NoUnits left
follow say (suc n) w task told left depth = step (follow say n) task told depth (say w task told) left

-- what a task comes to that has learnt something: its row is followed until it ends
unfoldable pub reach : Saying PlainTask → Follow
reach say w task told left depth = follow say (suc left) w task told left depth

-- where the units are used up, all bodies but the first so many are over
abbrev pub closing : ℕ → Outcome → Outcome
closing n (Out w (Over r) left) = Out w (Over r) left
closing n (Out w NoUnits left) = Out (at_depth n w) NoUnits left

-- the answer of a task, with units left, at a depth. A row that begins a body takes its scope away at its end; where the units are used up, the bodies that the task began are over
abbrev pub answer : Saying PlainTask → PlainWorld → PlainTask → ℕ → ℕ → Outcome
answer say w task left depth = closing (length w.scopes) (reach say w task [] left depth)

-- the replies to commands and the world after them
pub record Run : Type 0 where
  pub world : PlainWorld
  pub replies : List PlainReply

-- how a command is answered, with the text of its value in the world at its end. One that is answered no object answers None
abbrev pub answering : PlainWorld → Ending → Answering
answering w (Over (Ok (AsValue r))) = GivesValue r (show w r)
answering w (Over (Ok other)) = GivesValue none (show w none)
answering w (Over (Err x)) = GivesRaise x
answering w NoUnits = GivesBudget

abbrev pub replied : (PlainWorld → Run) → Outcome → Run
replied go (Out w e left) =
    let rest = go (without_calls w) in record { world = rest.world; replies = record { answer = answering w e; calls = w.calls } ∷ rest.replies }

-- each command is evaluated at depth 0 with the same units. A fault, or the end of the units, ends its command alone
abbrev pub plain_run : Saying PlainTask → PlainWorld → List Tree → ℕ → Run
plain_run say w [] units = record { world = w; replies = [] }
plain_run say w (e ∷ es) units = replied (λ w. plain_run say w es units) (answer say w (ToEval (DoEval e)) units 0)
