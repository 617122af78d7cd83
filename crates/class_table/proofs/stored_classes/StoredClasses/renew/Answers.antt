use Rattle.class_table.proofs.Lemmas.{refl, renewed_but_line, inside-of, edited-seen, edited-count}
use Rattle.class_table.proofs.stored_classes.StoredClasses.renew.Goals as goal

pub renew-requires : goal.renew-requires
renew-requires c = inside-of c.self.inside.classes.items c.args.self.now c.self.inside.lines c.args.at c.self.view_is c.self.invariant c.requires

pub invariant_of-self : goal.invariant_of-self
invariant_of-self c = edited-count (λ k. renewed_but_line c.args.renewed.now k) c.self.inside.classes.items c.args.self.now c.self.inside.lines c.args.at c.self.view_is c.self.invariant c.requires c.renew.new.classes.items c.renew.ensures

pub returns : goal.returns
returns c = edited-seen (λ k. renewed_but_line c.args.renewed.now k) (λ k line. refl) c.self.inside.classes.items c.args.self.now c.self.inside.lines c.args.at c.self.view_is c.self.invariant c.requires c.renew.new.classes.items c.renew.ensures
