use Rattle.class_table.proofs.Lemmas.{refl, set, place_of, inside-of, edited-seen, edited-count}
use Rattle.class_table.proofs.stored_classes.StoredClasses.set_slot.Goals as goal

pub set_slot-requires : goal.set_slot-requires
set_slot-requires c = inside-of c.self.inside.classes.items c.args.self.now c.self.inside.lines c.args.at c.self.view_is c.self.invariant c.requires

pub invariant_of-self : goal.invariant_of-self
invariant_of-self c = edited-count (λ k. record k { slots = set k.slots (place_of c.args.slot) c.args.entry }) c.self.inside.classes.items c.args.self.now c.self.inside.lines c.args.at c.self.view_is c.self.invariant c.requires c.set_slot.new.classes.items c.set_slot.ensures

pub returns : goal.returns
returns c = edited-seen (λ k. record k { slots = set k.slots (place_of c.args.slot) c.args.entry }) (λ k line. refl) c.self.inside.classes.items c.args.self.now c.self.inside.lines c.args.at c.self.view_is c.self.invariant c.requires c.set_slot.new.classes.items c.set_slot.ensures
