-- What a seat is left with that published the classes.
use Rattle.shared_vm.specs.Below.{ℕ, true, false, List, length, None, Result, Ok, Err, Turn, turns_by, Known, Change, AreSameButForNames, shown, Told, State}
use Rattle.std.specs.Prelude.{◌≡◌}
use Rattle.shared_vm.specs.declared.entry.Entry.{Entry}
use Rattle.shared_vm.specs.declared.entry.ExecFault.{ExecFault}
use Rattle.shared_vm.specs.declared.entry.ExecFault.TheVariants.{OutOfMemory, Failed}
use Rattle.shared_vm.specs.Journal.{PlainEntry, Legal, plain_journal}
use Rattle.shared_vm.specs.Book.{IsReplay}
use Rattle.shared_vm.specs.Turns.{entries_in, has_lost, turn, Makes}
use Rattle.shared_vm.specs.ViewedVm.Viewed.{IsTold}

-- the classes that changes show are, but for their names, those of a machine whose world the commands of this journal leave
pub record ShowsReplay (list : List Change) (j : List PlainEntry) : Type 0 where
  pub machine : State
  pub replay : IsReplay machine j
  pub shows : AreSameButForNames (shown list) machine.world.classes

-- what was told of shows the classes that the turns before leave; or no turn before was lost, but memory was wanting; or one was
abbrev pub Leads : List (Turn Entry) → Result (ℕ × Told) ExecFault → Type 0
Leads before (Ok r) = (has_lost before ≡ false) × ((list : List Change) × IsTold r.1 list × ShowsReplay list (plain_journal (entries_in before)))
Leads before (Err OutOfMemory) = has_lost before ≡ false
Leads before (Err (Failed after)) = (has_lost before ≡ true) × (after ≡ length (entries_in before))

-- the seat made an empty turn, which isn't lost; what it has then seen is legal, and of its own turns it has just those that it made
pub record Published (old new : Known Entry) (result : Result (ℕ × Told) ExecFault) : Type 0 where
  pub before : List (Turn Entry)
  pub makes : Makes old new before (turn old.number None false)
  pub leads : Leads before result
  pub legal : Legal (plain_journal (entries_in new.seen))
  pub own : turns_by new.number new.seen ≡ new.made
