use Rattle.vm_eval.proofs.Below.{length, vec_capacity}
use Rattle.vm_eval.proofs.Way.{IsUnderWay, turns_more}
use Rattle.std.proofs.Common.{◌+◌, ◌≤◌}
use Rattle.vm_eval.proofs.stack.take_turns.Given as goal

abbrev pub invariant-turns : goal.invariant-turns
invariant-turns l = record {
  way : IsUnderWay l.fn.task l.fn.world l.fn.units l.world l.stack.items l.left l.next;
  room : vec_capacity l.fn.stack ≤ vec_capacity l.stack;
}

abbrev pub decreases-turns : goal.decreases-turns
decreases-turns l = l.left + l.left + length l.stack.items + turns_more l.next
