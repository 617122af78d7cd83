use Rattle.class_table.proofs.Lemmas.{sym, classes_of, none-derives}
use Rattle.class_table.proofs.inherit.derives.Goals as goal

pub returns-in-None : goal.returns-in-None
returns-in-None c = sym (none-derives (classes_of c.args.classes.now) c.args.class.0 c.args.other.0 (sym c.in-None.ensures.class))
