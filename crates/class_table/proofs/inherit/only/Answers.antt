use Rattle.class_table.proofs.Lemmas.{classes_of, found, only-best}
use Rattle.class_table.proofs.inherit.only.Goals as goal

pub returns-in-len1-up : goal.returns-in-len1-up
returns-in-len1-up c =
    only-best (classes_of c.args.classes.now) (found (classes_of c.args.classes.now) c.requires.coherent.sound) c.args.bases.now c.requires.one c.requires.there c.in-len1-up.len_at_least
