use Rattle.class_table.proofs.Below.{numbers, RiseBy, AreTried}
use Rattle.class_table.proofs.trial.trials.Given as goal

abbrev pub invariant-loop-next : goal.invariant-loop-next
invariant-loop-next g l = record {
  tried : AreTried l.change.classes.now l.change.class.0 (numbers l.change.bases.now) l.ranked l.next-index l.trials;
  steps : RiseBy l.next-index 0 l.fn.steps l.steps;
}
