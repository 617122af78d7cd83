use Rattle.shared_vm.proofs.Lemmas.{arith, count_of, plain_journal, number_here, few_entries}
use Rattle.std.proofs.Common.{◌≡◌, ◌+◌}
use Rattle.shared_vm.proofs.number.next_number.Goals as goal

pub returns-then-entry-seat : goal.returns-then-entry-seat
returns-then-entry-seat c =
    let l = c.loop-entry in
    number_here c.args.seat c.args.journal.now l.entry-iterator.iter.rest.now c.next.new.self.iter.rest.now l.invariant.0 c.in-Some.entry.now c.requires l.invariant.1 c.in-Some.ensures.steps c.if-entry-seat.true l.invariant.2

pub overflow_add-result : goal.overflow_add-result
overflow_add-result c =
    let l = c.loop-entry in
    let number : c.in-Some.entry.now.number + 1 ≡ count_of c.args.seat (plain_journal c.args.journal.now) =
    number_here c.args.seat c.args.journal.now l.entry-iterator.iter.rest.now c.next.new.self.iter.rest.now l.invariant.0 c.in-Some.entry.now c.requires l.invariant.1 c.in-Some.ensures.steps c.if-entry-seat.true l.invariant.2 in
    let few = few_entries c.args.seat c.args.journal.now in
    omega (arith, number, few, c.iter.ensures.bound)
