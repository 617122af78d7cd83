use Rattle.class_world.proofs.Lemmas.{the_view, world-sound}
use Rattle.class_world.proofs.world.World.sound.Goals as goal

pub returns : goal.returns
returns c = world-sound (the_view c.self.inside) c.args.self.now c.self.view_is c.self.invariant c.sound.ensures.sound c.sound.ensures.distinct
