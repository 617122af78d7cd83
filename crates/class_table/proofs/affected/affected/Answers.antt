use Rattle.class_table.proofs.Lemmas.{numbers, classes_of, each-there, bases-there, affected-is}
use Rattle.class_table.proofs.affected.affected.Goals as goal

pub add_places-requires-clause-there : goal.add_places-requires-clause-there
add_places-requires-clause-there c =
    bases-there c.args.change.classes.now c.requires.coherent c.args.change.class.0 c.stored_at.result c.stored_at.ensures.here (numbers c.bases-bases.result.now) c.bases-bases.ensures

pub add_places-requires-2-clause-there : goal.add_places-requires-2-clause-there
add_places-requires-2-clause-there c = λ n h. each-there (classes_of c.args.change.classes.now) (numbers c.args.change.bases.now) c.requires.there n h

pub returns : goal.returns
returns c =
    affected-is c.args.change.classes.now c.requires.coherent c.args.change.class.0 (numbers c.args.change.bases.now) c.stored_at.result c.stored_at.ensures.here (numbers c.bases-bases.result.now) c.bases-bases.ensures c.in_ok-found.found c.add_places.new.found c.add_places-2.new.found c.in_ok-found.ensures c.in_ok-add_places.ensures c.in_ok-add_places-2.ensures c.all-all.ensures.distinct
