use Rattle.class_table.proofs.Lemmas.{length, sym, ap, ◌∙◌, with_lines, with-lines-length, with-lines-again}
use Rattle.class_table.proofs.stored_classes.StoredClasses.reline.Goals as goal

pub invariant_of-self : goal.invariant_of-self
invariant_of-self c =
    c.requires ∙ sym (ap length c.self.view_is) ∙ with-lines-length c.self.inside.classes.items c.self.inside.lines c.self.invariant

pub returns : goal.returns
returns c =
    let ks = c.self.inside.classes.items in
    let ls = c.self.inside.lines in
    let count = c.requires ∙ sym (ap length c.self.view_is) ∙ with-lines-length ks ls c.self.invariant in
    with-lines-again ks ls c.args.lines c.self.invariant count ∙ ap (λ kept. with_lines kept c.args.lines) c.self.view_is
