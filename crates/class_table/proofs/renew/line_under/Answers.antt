use Rattle.class_table.proofs.Lemmas.{true≢false, sym, ap, ◌∙◌, is_some, numbers, classes_of, order-passed}
use Rattle.class_table.proofs.renew.line_under.Goals as goal

pub unreachable-requires : goal.unreachable-requires
unreachable-requires c =
    let is = order-passed (classes_of c.args.change.classes.now) c.requires.coherent.sound c.args.change.class.0 (numbers c.args.change.bases.now) c.requires.own c.requires.there c.requires.passed c.args.class.0 c.requires.class in
    true≢false (sym is ∙ ap is_some (sym c.in-None.ensures))
