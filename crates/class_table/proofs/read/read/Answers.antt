use Rattle.class_table.proofs.Lemmas.{◌∙◌, numbers, line-within, slot-kept}
use Rattle.class_table.proofs.read.read.Goals as goal

pub read_along-requires-clause-inside : goal.read_along-requires-clause-inside
read_along-requires-clause-inside c =
    line-within c.args.classes.now c.requires.coherent c.args.class.0 c.stored_at.result c.stored_at.ensures.here (numbers c.mro.result.now) c.mro.ensures

pub returns : goal.returns
returns c =
    c.read_along.ensures ∙ slot-kept c.args.classes.now c.requires.coherent c.args.class.0 c.stored_at.result c.stored_at.ensures.here c.args.slot (numbers c.mro.result.now) c.mro.ensures
