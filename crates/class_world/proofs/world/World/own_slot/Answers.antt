use Rattle.class_world.proofs.Lemmas.{sym, ◌∙◌, the_view, Holds, IsClass, opened-one, entry-seen}
use Rattle.class_world.proofs.world.World.own_slot.Goals as goal

pub own_slot-requires : goal.own_slot-requires
unfolding Holds
own_slot-requires c = opened-one (the_view c.self.inside) c.args.self.now (IsClass c.args.class.0) c.self.view_is c.requires

pub returns : goal.returns
returns c = λ t r. entry-seen (the_view c.self.inside) c.args.self.now c.args.class.0 c.args.slot c.self.view_is c.self.invariant t r ∙ sym c.own_slot.ensures
