-- A book with a view: what always holds of it, and what it comes to where its classes are published.
use Rattle.shared_vm.specs.Below.{ℕ, true, false, List, length, Result, Ok, Err, view as known_of, Turn, Change, BeginsWith, AreSameButForNames, shown, Told, Posted, posted}
use Rattle.std.specs.Prelude.{◌≡◌, ◌+◌}
use Rattle.shared_vm.specs.declared.entry.Entry.{Entry}
use Rattle.shared_vm.specs.declared.entry.ExecFault.{ExecFault}
use Rattle.shared_vm.specs.declared.entry.ExecFault.TheVariants.{OutOfMemory, Failed}
use Rattle.shared_vm.specs.Book.{Pages}
use Rattle.shared_vm.specs.Turns.{Stands}

-- a book, and the changes of its view
pub record Viewed : Type 0 where
  pub book : Pages
  pub view : Posted

-- the changes of classes that its machine has logged
abbrev pub log_of : Pages → List Change
log_of book = book.machine.world.log

-- what the view has begins with just these: the machine's log begins with it
abbrev pub IsBehind : Viewed → Type 0
IsBehind v = BeginsWith v.view.changes (log_of v.book)

-- it stands for the turns that its book stands for
abbrev pub StandsFor : Viewed → List (Turn Entry) → Type 0
StandsFor v turns = Stands v.book turns

-- what was told of is a list of changes
abbrev pub IsTold : Told → List Change → Type 0
IsTold told list = (known_of told.reader.place).seen ≡ list

-- The whole log is published and told of, with how many changes are new to the view; it shows the machine's classes but for their names. Where memory is wanting the book is as it was, and nothing else is said of the view than what always holds. Where the machine has failed nothing changes
abbrev pub Publishes : Viewed → Viewed → Result (ℕ × Told) ExecFault → Type 0
Publishes old new (Ok r) =
    (old.book.machine.failed ≡ false) × (new.book ≡ old.book) × (length old.view.changes + r.0 ≡ length (log_of old.book)) × (new.view ≡ posted (log_of old.book) (log_of old.book)) × IsTold r.1 (log_of old.book) × AreSameButForNames (shown (log_of old.book)) old.book.machine.world.classes
Publishes old new (Err OutOfMemory) = (old.book.machine.failed ≡ false) × (new.book ≡ old.book)
Publishes old new (Err (Failed after)) = (old.book.machine.failed ≡ true) × (new ≡ old) × (after ≡ length old.book.journal)
