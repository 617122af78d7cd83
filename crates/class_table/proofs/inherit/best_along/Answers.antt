use Rattle.class_table.proofs.Lemmas.{numbers, classes_of, held-at, each-there}
use Rattle.class_table.proofs.inherit.best_along.Goals as goal

pub next_best-requires-clause-base : goal.next_best-requires-clause-base
next_best-requires-clause-base c =
    each-there (classes_of c.args.classes.now) (numbers c.args.bases.now) c.requires.there _ (held-at c.args.bases.now c.loop-base.base-index (record { 0 = 0 }) c.loop-base-test.true)
