use Rattle.class_world.proofs.Lemmas.{the_view, dict-none}
use Rattle.class_world.proofs.world.World.class_of_dicts.Goals as goal

pub returns-clause-none : goal.returns-clause-none
returns-clause-none c = dict-none (the_view c.self.inside) c.args.self.now _ c.self.view_is c.self.invariant c.built_in.ensures.place
