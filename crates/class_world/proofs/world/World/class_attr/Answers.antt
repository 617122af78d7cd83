use Rattle.class_world.proofs.Lemmas.{sym, ◌∙◌, the_view, Holds, IsClass, opened-one, found-seen, found-there}
use Rattle.class_world.proofs.world.World.class_attr.Goals as goal

pub get_attr-requires : goal.get_attr-requires
unfolding Holds
get_attr-requires c = opened-one (the_view c.self.inside) c.args.self.now (IsClass c.args.class.0) c.self.view_is c.requires

pub returns-clause-found : goal.returns-clause-found
returns-clause-found c = λ t r. found-seen (the_view c.self.inside) c.args.self.now c.self.view_is t c.args.class.0 c.args.name ∙ sym c.get_attr.ensures

pub returns-clause-node : goal.returns-clause-node
returns-clause-node c = rw c.get_attr.ensures (found-there (the_view c.self.inside) c.args.self.now c.self.view_is c.self.invariant c.args.class.0 c.args.name)
