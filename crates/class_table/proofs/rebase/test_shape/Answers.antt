use Rattle.class_table.proofs.Lemmas.{solid, first_best-held, numbers, classes_of, each-there}
use Rattle.class_table.proofs.rebase.test_shape.Goals as goal

pub inherited-solid-requires-clause-there : goal.inherited-solid-requires-clause-there
inherited-solid-requires-clause-there c =
    let t = classes_of c.args.classes.now in
    let bs = numbers c.args.bases.now in
    each-there t bs c.requires.there c.in-Ok.best.0 (first_best-held t (solid t) bs bs c.in-Ok.best.0 c.in-Ok.ensures.best)
