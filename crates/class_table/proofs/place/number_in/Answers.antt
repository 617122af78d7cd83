use Rattle.class_table.proofs.Lemmas.{Some, sym, ap, ◌∙◌, is_class, classes_of, place-number}
use Rattle.class_table.proofs.place.number_in.Goals as goal

pub returns-clause-number : goal.returns-clause-number
returns-clause-number c =
    (place-number c.args.classes.now c.requires.ascending c.args.place c.at.result c.requires.inside c.at.ensures).0 ∙ ap Some (sym c.number.ensures)

pub returns-clause-there : goal.returns-clause-there
returns-clause-there c =
    ap (is_class (classes_of c.args.classes.now)) c.number.ensures ∙ (place-number c.args.classes.now c.requires.ascending c.args.place c.at.result c.requires.inside c.at.ensures).1
