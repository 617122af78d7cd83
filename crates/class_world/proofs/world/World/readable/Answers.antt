use Rattle.class_world.proofs.Lemmas.{readable}
use Rattle.class_world.proofs.world.World.readable.Goals as goal

pub returns : goal.returns
returns c = rw (← c.self.view_is) (readable _ c.len-names.ensures.distinct c.self.invariant.below)
