use Rattle.class_table.proofs.Lemmas.{numbers, classes_of, held-at, each-there}
use Rattle.class_table.proofs.rebase.any_derives.Goals as goal

pub stored_at-requires-clause-there : goal.stored_at-requires-clause-there
stored_at-requires-clause-there c =
    each-there (classes_of c.args.classes.now) (numbers c.args.bases.now) c.requires.there _ (held-at c.args.bases.now c.loop-base.base-index (record { 0 = 0 }) c.loop-base-test.true)
