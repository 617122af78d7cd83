-- Journals of commands, and which of them a plain machine could have kept.
use Rattle.shared_vm.specs.Below.{ℕ, List, [], map, count_by, fold, PlainReply, reply_of, Tree, tree_of, Run, plain_run, PlainWorld, start, say}
use Rattle.std.specs.Prelude.{◌≡◌, ◌==◌, ◌∷◌, ◌++◌}
use Rattle.shared_vm.specs.declared.entry.Entry.{Entry}

-- a command of a seat, the how manyth of it this is, the units that it had, and its reply
pub record PlainEntry : Type 0 where
  pub seat : ℕ
  pub number : ℕ
  pub command : Tree
  pub budget : ℕ
  pub reply : PlainReply

abbrev pub plain_entry : Entry → PlainEntry
plain_entry e = record { seat = e.seat; number = e.number; command = tree_of e.command.expr; budget = e.budget; reply = reply_of e.reply }

abbrev pub plain_journal : List Entry → List PlainEntry
plain_journal j = map plain_entry j

-- the plain machine runs the entry's command
abbrev pub run_of : PlainWorld → PlainEntry → Run
run_of w e = plain_run say w (e.command ∷ []) e.budget

abbrev pub world_after : PlainWorld → PlainEntry → PlainWorld
world_after w e = (run_of w e).world

-- the world that the commands of a journal leave
unfoldable pub replay : List PlainEntry → PlainWorld
replay j = fold world_after start j

-- how many entries a seat has
abbrev pub count_of : ℕ → List PlainEntry → ℕ
count_of seat j = count_by (λ e. e.seat == seat) j

-- the entry's reply is the plain machine's in the world that the entries before it leave, and its number says how many of them are of its seat
pub record Follows (before : List PlainEntry) (e : PlainEntry) : Type 0 where
  pub reply : (run_of (replay before) e).replies ≡ e.reply ∷ []
  pub number : e.number ≡ count_of e.seat before

-- so it is of each entry
unfoldable pub Legal : List PlainEntry → Type 0
Legal j = (before : List PlainEntry) (e : PlainEntry) (rest : List PlainEntry) → j ≡ before ++ e ∷ rest → Follows before e
