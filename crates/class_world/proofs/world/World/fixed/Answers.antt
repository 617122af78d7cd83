use Rattle.class_world.proofs.Lemmas.{the_view, fixed-holds}
use Rattle.class_world.proofs.world.World.fixed.Goals as goal

pub returns-clause-node : goal.returns-clause-node
returns-clause-node c = fixed-holds (the_view c.self.inside) c.args.self.now c.args.object _ c.self.view_is c.self.invariant c.node.ensures
