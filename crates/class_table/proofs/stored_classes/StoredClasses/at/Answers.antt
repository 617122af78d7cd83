use Rattle.class_table.proofs.Lemmas.{List, [], get_or, sym, ap, ◌∙◌, arith, get_or_default, StoredClass, with_line, inside-of, with-lines-at}
use Rattle.std.proofs.Common.{◌≡◌}
use Rattle.class_table.proofs.stored_classes.StoredClasses.at.Goals as goal

pub index-requires : goal.index-requires
index-requires c =
    let inside = inside-of c.self.inside.classes.items c.args.self.now c.self.inside.lines c.args.place c.self.view_is c.self.invariant c.requires in
    omega (arith, inside)

pub invariant_of-result : goal.invariant_of-result
invariant_of-result c =
    let inside = inside-of c.self.inside.classes.items c.args.self.now c.self.inside.lines c.args.place c.self.view_is c.self.invariant c.requires in
    let count = c.self.invariant in
    omega (arith, inside, count)

pub returns : goal.returns
returns c =
    let ks = c.self.inside.classes.items in
    let ls = c.self.inside.lines in
    let at = c.args.place in
    let k = c.index.result.now in
    let line = get_or ls at [] in
    let x = with_line k line in
    let inside = inside-of ks c.args.self.now ls at c.self.view_is c.self.invariant c.requires in
    let own : k ≡ get_or ks at x = c.index.ensures ∙ get_or_default ks at k x inside in
    ap (λ (z : StoredClass). with_line z line) own
    ∙ sym (with-lines-at ks ls at x [] inside c.self.invariant)
    ∙ ap (λ (ys : List StoredClass). get_or ys at x) c.self.view_is
