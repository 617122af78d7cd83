use Rattle.class_table.proofs.Lemmas.{refl, string_bytes, inside-of, edited-seen, edited-count}
use Rattle.class_table.proofs.stored_classes.StoredClasses.set_name.Goals as goal

pub set_name-requires : goal.set_name-requires
set_name-requires c = inside-of c.self.inside.classes.items c.args.self.now c.self.inside.lines c.args.at c.self.view_is c.self.invariant c.requires

pub invariant_of-self : goal.invariant_of-self
invariant_of-self c = edited-count (λ k. record k { name = string_bytes c.args.name }) c.self.inside.classes.items c.args.self.now c.self.inside.lines c.args.at c.self.view_is c.self.invariant c.requires c.set_name.new.classes.items c.set_name.ensures

pub returns : goal.returns
returns c = edited-seen (λ k. record k { name = string_bytes c.args.name }) (λ k line. refl) c.self.inside.classes.items c.args.self.now c.self.inside.lines c.args.at c.self.view_is c.self.invariant c.requires c.set_name.new.classes.items c.set_name.ensures
