use Rattle.class_table.proofs.Lemmas.{◌∙◌, entry-kept}
use Rattle.class_table.proofs.read.own_entry.Goals as goal

pub returns : goal.returns
returns c =
    c.entry.ensures
    ∙ entry-kept c.args.classes.now c.requires.coherent c.args.class.0 c.stored_at.result c.stored_at.ensures.here c.args.slot
