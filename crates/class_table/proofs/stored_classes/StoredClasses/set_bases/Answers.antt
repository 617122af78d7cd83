use Rattle.class_table.proofs.Lemmas.{refl, numbers, inside-of, edited-seen, edited-count}
use Rattle.class_table.proofs.stored_classes.StoredClasses.set_bases.Goals as goal

pub set_bases-requires : goal.set_bases-requires
set_bases-requires c = inside-of c.self.inside.classes.items c.args.self.now c.self.inside.lines c.args.at c.self.view_is c.self.invariant c.requires

pub invariant_of-self : goal.invariant_of-self
invariant_of-self c = edited-count (λ k. record k { bases = numbers c.args.bases.items }) c.self.inside.classes.items c.args.self.now c.self.inside.lines c.args.at c.self.view_is c.self.invariant c.requires c.set_bases.new.classes.items c.set_bases.ensures

pub returns : goal.returns
returns c = edited-seen (λ k. record k { bases = numbers c.args.bases.items }) (λ k line. refl) c.self.inside.classes.items c.args.self.now c.self.inside.lines c.args.at c.self.view_is c.self.invariant c.requires c.set_bases.new.classes.items c.set_bases.ensures
