use Rattle.class_table.proofs.Below.{take, AreSettled, is_heap_ranked, places_kept, RiseBy}
use Rattle.std.proofs.Common.{◌*◌}
use Rattle.class_table.proofs.settle.settle_heaps.Given as goal

abbrev pub invariant-loop-next : goal.invariant-loop-next
invariant-loop-next g l = record {
  settled : AreSettled (is_heap_ranked (take l.next-index l.ranked)) l.fn.classes l.classes;
  steps : RiseBy 0 (70 * places_kept l.fn.classes (take l.next-index l.ranked)) l.fn.steps l.steps;
}
