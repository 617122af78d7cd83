use Rattle.class_table.proofs.Lemmas.{sym, read-class}
use Rattle.class_table.proofs.place.find.Goals as goal

pub returns-in-Some-clause-class : goal.returns-in-Some-clause-class
returns-in-Some-clause-class c =
    sym (read-class c.args.classes.now c.requires c.in-Some.place c.args.class.0 c.at.result c.in-Some.ensures.place c.at.ensures)
