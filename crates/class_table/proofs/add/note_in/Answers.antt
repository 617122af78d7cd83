use Rattle.class_table.proofs.Lemmas.{◌∙◌, element, number-within, noted-here}
use Rattle.class_table.proofs.add.note_in.Goals as goal

pub add_subclass-requires : goal.add_subclass-requires
add_subclass-requires c = number-within c.args.classes.now c.place-at.result c.args.base.0 c.place-at.ensures

pub returns-in-Ok-clause-ok : goal.returns-in-Ok-clause-ok
returns-in-Ok-clause-ok c =
    let kept = c.args.classes.now in
    let at = c.place-at.result in
    let d = element kept at (number-within kept at c.args.base.0 c.place-at.ensures) in
    c.in-Ok.ensures.ok d ∙ noted-here c.args.base.0 c.args.number.0 kept c.requires.ascending at c.place-at.ensures d
