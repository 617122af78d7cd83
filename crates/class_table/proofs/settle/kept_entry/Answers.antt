use Rattle.class_table.proofs.Lemmas.{sym, ◌∙◌, kept-heap}
use Rattle.class_table.proofs.settle.kept_entry.Goals as goal

pub returns-in-Some : goal.returns-in-Some
returns-in-Some c =
    c.entry.ensures
    ∙ kept-heap c.args.classes.now c.requires.lines c.requires.heaps c.args.class.0 c.in-Some.stored c.in-Some.ensures.here (sym c.is_heap.ensures ∙ c.if-is_heap.true) c.args.slot
