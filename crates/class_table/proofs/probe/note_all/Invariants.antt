use Rattle.class_table.proofs.Below.{take, value_of, is_called, AreAdded, RiseBy}
use Rattle.class_table.proofs.probe.note_all.Given as goal

abbrev pub invariant-loop-i : goal.invariant-loop-i
invariant-loop-i g l = record {
  added : AreAdded (λ n. value_of (is_called n) (take l.i l.attrs)) l.fn.values l.values;
  steps : RiseBy 0 l.i l.fn.steps l.steps;
}
