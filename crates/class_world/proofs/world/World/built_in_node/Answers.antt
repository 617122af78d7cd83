use Rattle.class_world.proofs.Lemmas.{the_view, built_in_node-holds}
use Rattle.class_world.proofs.world.World.built_in_node.Goals as goal

pub returns-clause-node : goal.returns-clause-node
returns-clause-node c = built_in_node-holds (the_view c.self.inside) c.args.self.now c.args.class _ c.self.view_is c.self.invariant c.class.ensures
