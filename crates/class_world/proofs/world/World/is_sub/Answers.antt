use Rattle.class_world.proofs.Lemmas.{sym, ◌∙◌, the_view, Holds, IsClass, opened-one, sub-seen}
use Rattle.class_world.proofs.world.World.is_sub.Goals as goal

pub fast_issubclass-requires : goal.fast_issubclass-requires
unfolding Holds
fast_issubclass-requires c = opened-one (the_view c.self.inside) c.args.self.now (IsClass c.args.class.0) c.self.view_is c.requires

pub returns : goal.returns
returns c = λ t. sub-seen (the_view c.self.inside) c.args.self.now c.self.view_is t c.args.class.0 c.args.other.0 ∙ sym c.fast_issubclass.ensures
