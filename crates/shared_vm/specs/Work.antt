-- What a session of commands leaves its seat with.
use Rattle.shared_vm.specs.Below.{ℕ, List, length, map, IfSome, All, Tree, tree_of, Turn, MOST_TURNS, turns_by, TableId, Known, IsFree}
use Rattle.std.specs.Prelude.{◌≡◌, ◌+◌, ◌≤◌, ◌++◌}
use mathlib.Core.List.{IsPrefix}
use Rattle.shared_vm.specs.declared.entry.Entry.{Entry}
use Rattle.shared_vm.specs.Turns.{entries_in}

-- a free seat of this lock that has so many turns left
pub record MayPerform (id : TableId) (turns : ℕ) (seat : Known Entry) : Type 0 where
  pub free : IsFree id seat
  pub own : turns_by seat.number seat.seen ≡ seat.made
  pub room : length seat.made + turns ≤ MOST_TURNS

-- it is the same seat, free, has forgotten nothing, and of its own turns has seen just those that it made
pub record Stays (id : TableId) (old new : Known Entry) : Type 0 where
  pub free : IsFree id new
  pub number : new.number ≡ old.number
  pub seen : IsPrefix old.seen new.seen
  pub own : turns_by new.number new.seen ≡ new.made

-- an entry that the turn left is of this seat and had these units
abbrev pub IsTurnOf : ℕ → ℕ → Turn Entry → Type 0
IsTurnOf number budget t = IfSome t.entry (λ e. (e.seat ≡ number) × (e.budget ≡ budget))

abbrev pub commands_in : List (Turn Entry) → List Tree
commands_in turns = map (λ e. tree_of e.command.expr) (entries_in turns)

-- it made a turn for each of these commands, in their order, and no other
pub record Performed (budget : ℕ) (commands : List Tree) (old new : Known Entry) : Type 0 where
  pub turns : List (Turn Entry)
  pub made : new.made ≡ old.made ++ turns
  pub commands_are : commands_in turns ≡ commands
  pub of_seat : All (IsTurnOf old.number budget) turns
  pub count : length turns ≡ length commands
