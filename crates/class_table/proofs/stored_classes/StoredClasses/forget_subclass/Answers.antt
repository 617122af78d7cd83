use Rattle.class_table.proofs.Lemmas.{List, [], length, get_or, set, refl, sym, ap, subst, ◌∙◌, length-map, StoredClass, class_of, classes_of, with_lines, inside-of, with-lines-at, edited, plain-lines}
use Rattle.std.proofs.Common.{◌≡◌, ◌∷◌, ◌++◌}
use Rattle.class_table.proofs.stored_classes.StoredClasses.forget_subclass.Goals as goal

pub forget_subclass-requires : goal.forget_subclass-requires
forget_subclass-requires c = inside-of c.self.inside.classes.items c.args.self.now c.self.inside.lines c.args.at c.self.view_is c.self.invariant c.requires

pub invariant_of-self : goal.invariant_of-self
invariant_of-self c =
    let new = c.forget_subclass.new.classes.items in
    let ks = c.self.inside.classes.items in
    c.self.invariant ∙ sym (length-map ks class_of) ∙ ap length (sym c.forget_subclass.ensures.plain) ∙ length-map new class_of

pub returns-clause-plain : goal.returns-clause-plain
returns-clause-plain c =
    plain-lines c.self.inside.classes.items c.forget_subclass.new.classes.items c.self.inside.lines c.forget_subclass.ensures.plain c.self.invariant ∙ ap classes_of c.self.view_is

pub returns-clause-back : goal.returns-clause-back
returns-clause-back c = λ d m ys e.
    let ks = c.self.inside.classes.items in
    let ls = c.self.inside.lines in
    let at = c.args.at in
    let new = c.forget_subclass.new.classes.items in
    let inside = inside-of c.self.inside.classes.items c.args.self.now c.self.inside.lines c.args.at c.self.view_is c.self.invariant c.requires in
    let seen = with-lines-at ks ls at d [] inside c.self.invariant in
    let P : List StoredClass → Type 0 = λ zs. (get_or zs at d).subclasses ≡ ys ++ m ∷ [] in
    let Q : List StoredClass → Type 0 = λ zs. with_lines new ls ≡ set zs at (record (get_or zs at d) { subclasses = ys }) in
    let own = ap (λ (k : StoredClass). k.subclasses) (sym seen) ∙ subst P (sym c.self.view_is) e in
    subst Q c.self.view_is (edited (λ k. record k { subclasses = ys }) (λ k line. refl) ks new ls at d inside c.self.invariant (c.forget_subclass.ensures.back d m ys own))
