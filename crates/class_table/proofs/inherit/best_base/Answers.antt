use Rattle.class_table.proofs.Lemmas.{numbers, classes_of, told-err, told-none, told-some}
use Rattle.class_table.proofs.inherit.best_base.Goals as goal

pub returns-in-Err-clause-refused : goal.returns-in-Err-clause-refused
returns-in-Err-clause-refused c =
    told-err (classes_of c.args.classes.now) c.requires.coherent.sound c.in-Err.cause (numbers c.args.bases.now) c.requires.there c.in-Err.ensures

pub returns-in-Ok-None-clause-refused : goal.returns-in-Ok-None-clause-refused
returns-in-Ok-None-clause-refused c =
    told-none (classes_of c.args.classes.now) c.requires.coherent.sound (numbers c.args.bases.now) c.requires.there (rw c.in-Ok-None.field-0-is at c.in-Ok-None.ensures)

pub returns-in-Ok-Some-clause-best : goal.returns-in-Ok-Some-clause-best
returns-in-Ok-Some-clause-best c =
    (told-some (classes_of c.args.classes.now) c.requires.coherent.sound c.in-Ok-Some.best (numbers c.args.bases.now) c.requires.there (rw c.in-Ok-Some.field-0-is at c.in-Ok-Some.ensures)).0

pub returns-in-Ok-Some-clause-refused : goal.returns-in-Ok-Some-clause-refused
returns-in-Ok-Some-clause-refused c =
    (told-some (classes_of c.args.classes.now) c.requires.coherent.sound c.in-Ok-Some.best (numbers c.args.bases.now) c.requires.there (rw c.in-Ok-Some.field-0-is at c.in-Ok-Some.ensures)).1
