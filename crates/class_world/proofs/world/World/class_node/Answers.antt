use Rattle.class_world.proofs.Lemmas.{the_view, IsClass, opened-one, node-there}
use Rattle.class_world.proofs.world.World.class_node.Goals as goal

pub returns-clause-node : goal.returns-clause-node
returns-clause-node c =
    let w = the_view c.self.inside in
    node-there w c.args.self.now c.args.class.0 c.self.view_is c.self.invariant (opened-one w c.args.self.now (IsClass c.args.class.0) c.self.view_is c.requires)
