use Rattle.class_world.proofs.Lemmas.{the_view, Holds, IsClass, opened-one, inherited-seen, inherited-hold}
use Rattle.class_world.proofs.world.World.get_attributes.Goals as goal

pub get_attributes-requires : goal.get_attributes-requires
unfolding Holds
get_attributes-requires c = opened-one (the_view c.self.inside) c.args.self.now (IsClass c.args.class.0) c.self.view_is c.requires

pub returns-clause-attrs : goal.returns-clause-attrs
returns-clause-attrs c = inherited-seen (the_view c.self.inside) c.args.self.now c.self.view_is c.args.class.0 c.get_attributes.result c.get_attributes.ensures

pub returns-clause-holds : goal.returns-clause-holds
returns-clause-holds c = inherited-hold (the_view c.self.inside) c.args.self.now c.self.view_is c.args.class.0 c.get_attributes.result c.get_attributes.ensures c.self.invariant
