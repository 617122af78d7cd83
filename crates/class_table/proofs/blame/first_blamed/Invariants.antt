use Rattle.class_table.proofs.Below.{numbers, AreBlame, AreReached}
use Rattle.class_table.proofs.blame.first_blamed.Given as goal

abbrev pub invariant-loop-next : goal.invariant-loop-next
invariant-loop-next l = record {
  blame : AreBlame l.change.classes.now l.change.class.0 (numbers l.change.bases.now) l.first;
  reached : AreReached l.change.classes.now l.change.class.0 (numbers l.change.bases.now) l.ranked l.next-index l.first;
}
