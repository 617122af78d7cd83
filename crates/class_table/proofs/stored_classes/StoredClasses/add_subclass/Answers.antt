use Rattle.class_table.proofs.Lemmas.{refl, [], inside-of, edited-ok, edited-err, edited-either}
use Rattle.std.proofs.Common.{◌++◌, ◌∷◌}
use Rattle.class_table.proofs.stored_classes.StoredClasses.add_subclass.Goals as goal

pub add_subclass-requires : goal.add_subclass-requires
add_subclass-requires c = inside-of c.self.inside.classes.items c.args.self.now c.self.inside.lines c.args.at c.self.view_is c.self.invariant c.requires

pub invariant_of-self : goal.invariant_of-self
invariant_of-self c = edited-either (λ k. record k { subclasses = k.subclasses ++ c.args.class.0 ∷ [] }) c.self.inside.classes.items c.args.self.now c.self.inside.lines c.args.at c.self.view_is c.self.invariant c.requires c.add_subclass.new.classes.items c.add_subclass.result c.add_subclass.ensures.ok c.add_subclass.ensures.err

pub returns-clause-ok : goal.returns-clause-ok
returns-clause-ok c = edited-ok (λ k. record k { subclasses = k.subclasses ++ c.args.class.0 ∷ [] }) (λ k line. refl) c.self.inside.classes.items c.args.self.now c.self.inside.lines c.args.at c.self.view_is c.self.invariant c.requires c.add_subclass.new.classes.items c.add_subclass.result c.add_subclass.ensures.ok

pub returns-clause-err : goal.returns-clause-err
returns-clause-err c = edited-err c.self.inside.classes.items c.args.self.now c.add_subclass.new.classes.items c.self.inside.lines c.self.view_is c.add_subclass.result c.add_subclass.ensures.err
