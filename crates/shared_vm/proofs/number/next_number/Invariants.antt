use Rattle.shared_vm.proofs.Below.{List, Entry, count_of, plain_journal}
use Rattle.std.proofs.Common.{◌≡◌, ◌++◌}
use Rattle.shared_vm.proofs.number.next_number.Given as goal

-- what comes behind the entries that are left has none of the seat
abbrev pub invariant-loop-entry : goal.invariant-loop-entry
invariant-loop-entry l =
    (done : List Entry) × (l.journal ≡ l.entry-iterator.iter.rest.now ++ done) × (count_of l.seat (plain_journal done) ≡ 0)
