use Rattle.class_table.proofs.Lemmas.{length, ap, sym, ◌∙◌, arith, vec_len, with-lines-length}
use Rattle.std.proofs.Common.{◌≡◌, ◌==◌}
use Rattle.class_table.proofs.stored_classes.StoredClasses.is_empty.Goals as goal

pub returns : goal.returns
returns c =
    let n = sym (with-lines-length c.self.inside.classes.items c.self.inside.lines c.self.invariant) ∙ ap length c.self.view_is in
    let count : vec_len c.self.inside.classes ≡ length c.args.self.now = omega (arith, n) in
    c.is_empty.ensures ∙ ap (λ m. m == 0) count
