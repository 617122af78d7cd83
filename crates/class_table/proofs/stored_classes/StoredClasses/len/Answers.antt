use Rattle.class_table.proofs.Lemmas.{length, sym, ap, ◌∙◌, arith, with-lines-length}
use Rattle.class_table.proofs.stored_classes.StoredClasses.len.Goals as goal

pub returns : goal.returns
returns c =
    let n = sym (with-lines-length c.self.inside.classes.items c.self.inside.lines c.self.invariant) ∙ ap length c.self.view_is in
    omega (arith, n)
