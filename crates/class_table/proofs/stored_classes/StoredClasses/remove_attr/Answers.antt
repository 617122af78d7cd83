use Rattle.class_table.proofs.Lemmas.{List, [], sym, get_or, refl, ap, subst, ◌∙◌, is_some, value_of, without_key, is_same_name, StoredClass, inside-of, with-lines-at, edited-seen, edited-count}
use Rattle.std.proofs.Common.{◌≡◌}
use Rattle.class_table.proofs.stored_classes.StoredClasses.remove_attr.Goals as goal

pub remove_attr-requires : goal.remove_attr-requires
remove_attr-requires c = inside-of c.self.inside.classes.items c.args.self.now c.self.inside.lines c.args.at c.self.view_is c.self.invariant c.requires

pub invariant_of-self : goal.invariant_of-self
invariant_of-self c = edited-count (λ k. record k { attrs = without_key is_same_name k.attrs c.args.name }) c.self.inside.classes.items c.args.self.now c.self.inside.lines c.args.at c.self.view_is c.self.invariant c.requires c.remove_attr.new.classes.items c.remove_attr.ensures.left

pub returns-clause-left : goal.returns-clause-left
returns-clause-left c = edited-seen (λ k. record k { attrs = without_key is_same_name k.attrs c.args.name }) (λ k line. refl) c.self.inside.classes.items c.args.self.now c.self.inside.lines c.args.at c.self.view_is c.self.invariant c.requires c.remove_attr.new.classes.items c.remove_attr.ensures.left

pub returns-clause-there : goal.returns-clause-there
returns-clause-there c = λ d.
    let at = c.args.at in
    let P : List StoredClass → Type 0 = λ ys. c.remove_attr.result ≡ is_some (value_of (λ k. is_same_name k c.args.name) (get_or ys at d).attrs) in
    let seen = with-lines-at c.self.inside.classes.items c.self.inside.lines at d [] (inside-of c.self.inside.classes.items c.args.self.now c.self.inside.lines c.args.at c.self.view_is c.self.invariant c.requires) c.self.invariant in
    subst P c.self.view_is (c.remove_attr.ensures.there d ∙ ap (λ (k : StoredClass). is_some (value_of (λ j. is_same_name j c.args.name) k.attrs)) (sym seen))
