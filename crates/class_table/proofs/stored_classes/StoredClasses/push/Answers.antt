use Rattle.class_table.proofs.Lemmas.{List, [], ap, ◌∙◌, PyTypeRef, numbers, StoredClass, with_line, with_lines, with-lines-push}
use Rattle.std.proofs.Common.{◌≡◌, ◌∷◌, ◌++◌}
use Rattle.class_table.proofs.stored_classes.StoredClasses.push.Goals as goal

pub returns-in-Ok-clause-ok : goal.returns-in-Ok-clause-ok
returns-in-Ok-clause-ok c =
    let ks = c.self.inside.classes.items in
    let ls = c.self.inside.lines in
    let own : StoredClass = c.new.inside.stored in
    let line = numbers c.new.inside.line.items in
    let lined : c.add.new.self ≡ ls ++ line ∷ [] = c.in-Ok.ensures.ok ∙ ap (λ (xs : List PyTypeRef). ls ++ numbers xs ∷ []) c.deref.ensures.value in
    let held : c.push_reserved.new.self.items ≡ ks ++ own ∷ [] = c.push_reserved.ensures.items ∙ ap (λ (xs : List StoredClass). xs ++ own ∷ []) c.reserve.ensures.items in
    ap (λ (xs : List StoredClass). with_lines xs c.add.new.self) held
    ∙ ap (with_lines (ks ++ own ∷ [])) lined
    ∙ with-lines-push ks ls own line c.self.invariant
    ∙ ap (λ (xs : List StoredClass). xs ++ with_line own line ∷ []) c.self.view_is
    ∙ ap (λ (k : StoredClass). c.args.self.now ++ k ∷ []) c.new.view_is
