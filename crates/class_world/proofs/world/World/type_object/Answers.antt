use Rattle.class_world.proofs.Lemmas.{ap, ◌∙◌, object_for, plain}
use Rattle.class_world.proofs.world.World.type_object.Goals as goal

pub returns-clause-object : goal.returns-clause-object
returns-clause-object c = λ t. ap (object_for (plain t c.args.self.now)) (c.class_of-class.ensures.reads t) ∙ c.class_object.ensures.object t
