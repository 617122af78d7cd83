use Rattle.class_table.proofs.Lemmas.{refl, with_value, is_same_name, inside-of, edited-ok, edited-err, edited-either}
use Rattle.class_table.proofs.stored_classes.StoredClasses.set_attr.Goals as goal

pub set_attr-requires : goal.set_attr-requires
set_attr-requires c = inside-of c.self.inside.classes.items c.args.self.now c.self.inside.lines c.args.at c.self.view_is c.self.invariant c.requires

pub invariant_of-self : goal.invariant_of-self
invariant_of-self c = edited-either (λ k. record k { attrs = with_value is_same_name k.attrs c.args.name c.args.value }) c.self.inside.classes.items c.args.self.now c.self.inside.lines c.args.at c.self.view_is c.self.invariant c.requires c.set_attr.new.classes.items c.set_attr.result c.set_attr.ensures.ok c.set_attr.ensures.err

pub returns-clause-ok : goal.returns-clause-ok
returns-clause-ok c = edited-ok (λ k. record k { attrs = with_value is_same_name k.attrs c.args.name c.args.value }) (λ k line. refl) c.self.inside.classes.items c.args.self.now c.self.inside.lines c.args.at c.self.view_is c.self.invariant c.requires c.set_attr.new.classes.items c.set_attr.result c.set_attr.ensures.ok

pub returns-clause-err : goal.returns-clause-err
returns-clause-err c = edited-err c.self.inside.classes.items c.args.self.now c.set_attr.new.classes.items c.self.inside.lines c.self.view_is c.set_attr.result c.set_attr.ensures.err
