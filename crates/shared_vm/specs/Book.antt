-- The book that is under the lock: what always holds of it, and what a step of it comes to.
use Rattle.shared_vm.specs.Below.{ℕ, true, false, List, [], length, Option, Some, None, Result, Ok, Err, IfSome, option_to_list, slice_get, PyStrInterned, PlainReply, reply_of, Text, Tree, tree_of, plain_run, Held, Reading, Reads, plain, IsReadable, say, State}
use Rattle.std.specs.Prelude.{◌≡◌, ◌∷◌, ◌++◌}
use Rattle.shared_vm.specs.declared.entry.Entry.{Entry}
use Rattle.shared_vm.specs.declared.entry.Receipt.{Receipt}
use Rattle.shared_vm.specs.declared.entry.ExecFault.{ExecFault}
use Rattle.shared_vm.specs.declared.entry.ExecFault.TheVariants.{OutOfMemory, Failed}
use Rattle.shared_vm.specs.Journal.{PlainEntry, plain_journal, replay, Legal}

-- a machine, and the commands that it ran, with their replies
pub record Pages : Type 0 where
  pub machine : State
  pub journal : List Entry

-- the machine's world, however its numbers are read, is the one that these entries leave
pub record IsReplay (machine : State) (j : List PlainEntry) : Type 0 where
  pub readable : IsReadable machine.world
  pub world : (t : Reading) → Reads t machine.world → plain t machine.world ≡ replay j

-- what always holds of a book: its journal is legal, and while its mark is clear its machine is the journal's replay
pub record IsTrue (book : Pages) : Type 0 where
  pub legal : Legal (plain_journal book.journal)
  pub world : book.machine.failed ≡ false → IsReplay book.machine (plain_journal book.journal)

-- the reply and the world after it are the plain machine's, however the numbers are read
abbrev pub Ran : Tree → Held → ℕ → Held → PlainReply → Type 0
Ran command old units new reply =
    (t : Reading) → Reads t new → Reads t old × (plain_run say (plain t old) (command ∷ []) units ≡ record { world = plain t new; replies = reply ∷ [] })

-- the entry is of this seat, this command and these units
pub record IsOf (seat : ℕ) (command : Tree) (budget : ℕ) (e : Entry) : Type 0 where
  pub seat_is : e.seat ≡ seat
  pub command_is : tree_of e.command.expr ≡ command
  pub budget_is : e.budget ≡ budget

-- the receipt tells of the entry at this place of the journal
pub record Tells (r : Receipt) (place : ℕ) (e : Entry) : Type 0 where
  pub place_is : r.place ≡ place
  pub seat_is : r.seat ≡ e.seat
  pub command_is : tree_of r.command.expr ≡ tree_of e.command.expr
  pub reply_is : reply_of r.reply ≡ reply_of e.reply

-- the journal has one entry more, or none
abbrev pub Adds : List Entry → List Entry → Option Entry → Type 0
Adds old new left = new ≡ old ++ option_to_list left

-- A step on a book that hasn't failed adds its entry, of which the receipt tells, or finds no memory: the book has failed then, whether the entry stands or not. One that has failed stays as it is
abbrev pub Stepped : Pages → Pages → ℕ → Tree → ℕ → Result Receipt ExecFault → Type 0
Stepped old new seat command budget (Ok r) =
    (old.machine.failed ≡ false) × (new.machine.failed ≡ false) × ((e : Entry) × (new.journal ≡ old.journal ++ e ∷ []) × IsOf seat command budget e × Tells r (length old.journal) e)
Stepped old new seat command budget (Err OutOfMemory) =
    (old.machine.failed ≡ false) × (new.machine.failed ≡ true) × ((left : Option Entry) × Adds old.journal new.journal left × IfSome left (IsOf seat command budget))
Stepped old new seat command budget (Err (Failed after)) =
    (old.machine.failed ≡ true) × (new ≡ old) × (after ≡ length old.journal)

-- the name of a text among those of the book's machine; none where it has no such name
abbrev pub IsNameOf : Option PyStrInterned → Pages → Text → Type 0
IsNameOf (Some x) book text = slice_get book.machine.world.names x.0 ≡ Some text
IsNameOf None book text = (n : ℕ) → slice_get book.machine.world.names n ≡ Some text → ⊥
