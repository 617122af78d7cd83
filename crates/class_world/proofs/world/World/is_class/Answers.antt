use Rattle.class_world.proofs.Lemmas.{sym, ◌∙◌, the_view, there-seen}
use Rattle.class_world.proofs.world.World.is_class.Goals as goal

pub returns-clause-is : goal.returns-clause-is
returns-clause-is c = λ t. there-seen (the_view c.self.inside) c.args.self.now c.self.view_is t c.args.class.0 ∙ sym c.has_class.ensures
