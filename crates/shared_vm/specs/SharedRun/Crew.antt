-- What the seats of a run are to do, and what they have done.
use Rattle.shared_vm.specs.Below.{ℕ, suc, false, List, [], length, vec_len, slice_index_or, All, Tree, Turn, turns_by, TableId, Known, IsFree, trees_in}
use Rattle.std.specs.Prelude.{◌≡◌, ◌<◌}
use mathlib.Core.List.{IsPrefix}
use Rattle.shared_vm.specs.declared.entry.Entry.{Entry}
use Rattle.shared_vm.specs.Work.{MayPerform, Stays, IsTurnOf, commands_in, Performed}
use Rattle.shared_vm.specs.declared.shared_run.crew.Worker.{Worker}

-- P holds of each place and the element there
abbrev pub Each : {X : Type 0} → (ℕ → X → Type 0) → List X → Type 0
Each {X} P xs = (k : ℕ) (d : X) → k < length xs → P k (slice_index_or xs k d)

-- The worker at this place has the next seat, which has all of a session before it, and has seen all that the first seat had seen
pub record IsReady (id : TableId) (opening : List (Turn Entry)) (session : List Tree) (k : ℕ) (w : Worker) : Type 0 where
  pub may : MayPerform id (vec_len w.session) w.seat
  pub number : w.seat.number ≡ suc k
  pub made : w.seat.made ≡ []
  pub met : IsPrefix opening w.seat.seen
  pub session_is : trees_in w.session.items ≡ session

-- so it is of the worker at each place, whose session is the one of that place
abbrev pub AllReady : TableId → List (Turn Entry) → List (List Tree) → List Worker → Type 0
AllReady id opening sessions crew = Each (λ k w. IsReady id opening (slice_index_or sessions k []) k w) crew

-- it has made a turn for each command of its session, unless it was refused one
pub record Worked (id : TableId) (budget : ℕ) (old new : Worker) : Type 0 where
  pub stays : Stays id old.seat new.seat
  pub all : new.refused ≡ false → Performed budget (trees_in old.session.items) old.seat new.seat

-- The free seat with this number has made a turn for each command of a session, in order, and no other. It has seen what the opening left, in which the first seat had made all its turns, and a later one none
pub record Did (id : TableId) (budget : ℕ) (opening : List (Turn Entry)) (session : List Tree) (k : ℕ) (s : Known Entry) : Type 0 where
  pub free : IsFree id s
  pub number : s.number ≡ k
  pub commands : commands_in s.made ≡ session
  pub of_seat : All (IsTurnOf k budget) s.made
  pub seen : IsPrefix opening s.seen
  pub opened : k ≡ 0 → turns_by k opening ≡ s.made
  pub behind : 0 < k → turns_by k opening ≡ []

-- so it is of the seat at each place, and the session of that place
abbrev pub AllDid : TableId → ℕ → List (Turn Entry) → List (List Tree) → List (Known Entry) → Type 0
AllDid id budget opening sessions seats = Each (λ k s. Did id budget opening (slice_index_or sessions k []) k s) seats
