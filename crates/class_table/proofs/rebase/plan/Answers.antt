use Rattle.class_table.proofs.Lemmas.{numbers, classes_of, early-passed}
use Rattle.class_table.proofs.rebase.plan.Goals as goal

pub trials-requires-clause-distinct : goal.trials-requires-clause-distinct
trials-requires-clause-distinct g c = (early-passed (classes_of c.args.change.classes.now) c.args.change.class.0 (numbers c.args.change.bases.now) c.requires.early).1
