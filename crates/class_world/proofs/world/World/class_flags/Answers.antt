use Rattle.class_world.proofs.Lemmas.{◌∙◌, the_view, IsClass, opened-one, class-there, flags-seen}
use Rattle.class_world.proofs.world.World.class_flags.Goals as goal

pub flags-requires : goal.flags-requires
flags-requires c = class-there _ _ (opened-one (the_view c.self.inside) c.args.self.now (IsClass c.args.class.0) c.self.view_is c.requires)

pub returns : goal.returns
returns c = λ t. flags-seen (the_view c.self.inside) c.args.self.now c.self.view_is t c.args.class.0 ∙ c.flags.ensures
