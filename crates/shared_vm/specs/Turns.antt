-- The turns that a book stands for, and what an execute leaves its seat with.
use Rattle.shared_vm.specs.Below.{ℕ, Bool, true, false, List, length, Option, Some, None, Result, Ok, Err, IfSome, slice_get, filter_map, list_any, PyStrInterned, Text, Tree, Turn, turns_by, Known, with_turn}
use Rattle.std.specs.Prelude.{◌≡◌}
use mathlib.Core.List.{IsPrefix}
use Rattle.shared_vm.specs.declared.entry.Entry.{Entry}
use Rattle.shared_vm.specs.declared.entry.Receipt.{Receipt}
use Rattle.shared_vm.specs.declared.entry.ExecFault.{ExecFault}
use Rattle.shared_vm.specs.declared.entry.ExecFault.TheVariants.{OutOfMemory, Failed}
use Rattle.shared_vm.specs.Journal.{plain_journal, Legal}
use Rattle.shared_vm.specs.Book.{Pages, IsNameOf, IsOf, IsTrue, Tells}

-- the entries that turns left
abbrev pub entries_in : List (Turn Entry) → List Entry
entries_in log = filter_map (λ t. t.entry) log

abbrev pub has_lost : List (Turn Entry) → Bool
has_lost log = list_any (λ t. t.lost) log

-- the book has their entries, and has failed exactly where one of them was lost
pub record Stands (book : Pages) (log : List (Turn Entry)) : Type 0 where
  pub journal : book.journal ≡ entries_in log
  pub failed : book.machine.failed ≡ has_lost log

abbrev pub turn : ℕ → Option Entry → Bool → Turn Entry
turn by left lost = record { by = by; entry = left; lost = lost }

-- the turn that left the entry which the journal has more than was seen, if it has one
abbrev pub newest : ℕ → List (Turn Entry) → List Entry → Bool → Turn Entry
newest by seen journal lost = turn by (slice_get journal (length (entries_in seen))) lost

-- the seat has seen these turns, which begin with what it had seen, and has then made its own
abbrev pub Makes : Known Entry → Known Entry → List (Turn Entry) → Turn Entry → Type 0
Makes old new before t = IsPrefix old.seen before × (new ≡ with_turn (record old { seen = before }) t)

-- Ok's turn leaves the entry of which the receipt tells. Where memory was wanting the turn is lost, whether its entry stands or not. Failed leaves an empty turn: one before it was lost
abbrev pub Leaves : Known Entry → Known Entry → Tree → ℕ → Result Receipt ExecFault → Type 0
Leaves old new command budget (Ok r) =
    (before : List (Turn Entry)) × (e : Entry) × Makes old new before (turn old.number (Some e) false)
    × (has_lost before ≡ false) × IsOf old.number command budget e × Tells r (length (entries_in before)) e
Leaves old new command budget (Err OutOfMemory) =
    (before : List (Turn Entry)) × (left : Option Entry) × Makes old new before (turn old.number left true)
    × (has_lost before ≡ false) × IfSome left (IsOf old.number command budget)
Leaves old new command budget (Err (Failed after)) =
    (before : List (Turn Entry)) × Makes old new before (turn old.number None false)
    × (has_lost before ≡ true) × (after ≡ length (entries_in before))

-- what the seat has then seen is legal, and of its own turns it has just those that it made
pub record Executed (old new : Known Entry) (command : Tree) (budget : ℕ) (result : Result Receipt ExecFault) : Type 0 where
  pub leaves : Leaves old new command budget result
  pub legal : Legal (plain_journal (entries_in new.seen))
  pub own : turns_by new.number new.seen ≡ new.made

-- a seat was told the name of a text by the book that stood for all turns before its own, which is empty and isn't lost
pub record Named (old new : Known Entry) (text : Text) (result : Option PyStrInterned) : Type 0 where
  pub before : List (Turn Entry)
  pub makes : Makes old new before (turn old.number None false)
  pub book : Pages
  pub stands : Stands book before
  pub keeps : IsTrue book
  pub is : IsNameOf result book text
  pub own : turns_by new.number new.seen ≡ new.made
