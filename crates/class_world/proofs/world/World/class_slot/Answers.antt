use Rattle.class_world.proofs.Lemmas.{sym, ◌∙◌, the_view, Holds, IsClass, opened-one, slot-seen}
use Rattle.class_world.proofs.world.World.class_slot.Goals as goal

pub slot-requires : goal.slot-requires
unfolding Holds
slot-requires c = opened-one (the_view c.self.inside) c.args.self.now (IsClass c.args.class.0) c.self.view_is c.requires

pub returns : goal.returns
returns c = λ t r. slot-seen (the_view c.self.inside) c.args.self.now c.args.class.0 c.args.slot c.self.view_is c.self.invariant t r ∙ sym c.slot.ensures
