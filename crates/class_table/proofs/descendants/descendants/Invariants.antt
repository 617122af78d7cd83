use Rattle.class_table.proofs.Descended.{Finding}
use Rattle.class_table.proofs.descendants.descendants.Given as goal

abbrev pub invariant-loop-index : goal.invariant-loop-index
invariant-loop-index l = Finding l.classes l.fn.class.0 l.index l.found
