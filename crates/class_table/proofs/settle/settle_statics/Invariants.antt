use Rattle.class_table.proofs.Below.{take, AreSettled, is_static_ranked}
use Rattle.class_table.proofs.settle.settle_statics.Given as goal

abbrev pub invariant-loop-next : goal.invariant-loop-next
invariant-loop-next l = record {
  settled : AreSettled (is_static_ranked (take l.next-index l.ranked)) l.fn.classes l.classes;
}
