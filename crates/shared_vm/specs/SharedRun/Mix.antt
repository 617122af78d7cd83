-- Journals that are a mix of an opening and sessions.
use Rattle.shared_vm.specs.Below.{ℕ, List, [], length, map, slice_index_or, Vec, All, filter, Global, Command, Tree, trees_in}
use Rattle.std.specs.Prelude.{◌≡◌, ◌==◌, ◌<◌}
use mathlib.Core.List.{IsPrefix}
use Rattle.shared_vm.specs.Journal.{PlainEntry}

-- the expressions of the commands of each session
abbrev pub session_trees : List (Vec Command Global) → List (List Tree)
session_trees sessions = map (λ s. trees_in s.items) sessions

-- the entries of a seat, in their order
abbrev pub entries_by : ℕ → List PlainEntry → List PlainEntry
entries_by seat j = filter (λ e. e.seat == seat) j

abbrev pub commands_by : ℕ → List PlainEntry → List Tree
commands_by seat j = map (λ e. e.command) (entries_by seat j)

-- Each of these lists of commands, of which the first is the opening, was executed by the seat of its place, in order, each command with this budget; the opening came first, and nothing else was executed
pub record Mix (j : List PlainEntry) (sessions : List (List Tree)) (budget : ℕ) : Type 0 where
  pub opening_first : IsPrefix (entries_by 0 j) j
  pub in_order : (k : ℕ) → k < length sessions → commands_by k j ≡ slice_index_or sessions k []
  pub budget_is : All (λ e. e.budget ≡ budget) j
  pub by_seats : All (λ e. e.seat < length sessions) j
