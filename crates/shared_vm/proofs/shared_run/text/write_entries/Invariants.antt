use Rattle.shared_vm.proofs.Below.{take, plain_journal, entries_text}
use Rattle.std.proofs.Common.{◌≡◌}
use Rattle.shared_vm.proofs.shared_run.text.write_entries.Given as goal

abbrev pub invariant-loop-entry : goal.invariant-loop-entry
invariant-loop-entry l = l.out.items ≡ entries_text (plain_journal (take l.entry-index l.journal))
