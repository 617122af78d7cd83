use Rattle.class_world.proofs.Lemmas.{the_view, Holds, IsClass, opened-one, own-hold}
use Rattle.class_world.proofs.Attributes.{own-seen}
use Rattle.class_world.proofs.world.World.attributes.Goals as goal

pub attributes-requires : goal.attributes-requires
unfolding Holds
attributes-requires c = opened-one (the_view c.self.inside) c.args.self.now (IsClass c.args.class.0) c.self.view_is c.requires

pub returns-clause-attrs : goal.returns-clause-attrs
returns-clause-attrs c = own-seen (the_view c.self.inside) c.args.self.now c.self.view_is c.args.class.0 c.attributes.result.now c.attributes.ensures

pub returns-clause-holds : goal.returns-clause-holds
returns-clause-holds c = own-hold (the_view c.self.inside) c.args.self.now c.self.view_is c.args.class.0 c.attributes.result.now c.attributes.ensures c.self.invariant
