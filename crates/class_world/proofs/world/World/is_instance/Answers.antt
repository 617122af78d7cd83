use Rattle.class_world.proofs.Lemmas.{ap, ◌∙◌, derives, plain}
use Rattle.class_world.proofs.world.World.is_instance.Goals as goal

pub returns : goal.returns
returns c = λ t. ap (λ k. derives (plain t c.args.self.now) k c.args.class.0) (c.class_of-own.ensures.reads t) ∙ c.is_sub.ensures t
