use Rattle.class_world.proofs.Lemmas.{the_view, Holds, IsClass, opened-one}
use Rattle.class_world.proofs.world.World.find_class_attr.Goals as goal

pub find_attr-requires : goal.find_attr-requires
unfolding Holds
find_attr-requires c = opened-one (the_view c.self.inside) c.args.self.now (IsClass c.args.class.0) c.self.view_is c.requires
