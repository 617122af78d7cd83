use Rattle.class_world.proofs.Lemmas.{the_view, built_in-holds, built_in-of}
use Rattle.class_world.proofs.world.World.built_in.Goals as goal

pub returns-clause-class : goal.returns-clause-class
returns-clause-class c = built_in-holds (the_view c.self.inside) c.args.self.now c.args.class _ c.self.view_is c.self.invariant c.class.ensures

pub returns-clause-of : goal.returns-clause-of
returns-clause-of c = built_in-of (the_view c.self.inside) c.args.self.now c.args.class _ c.self.view_is c.self.invariant c.class.ensures
