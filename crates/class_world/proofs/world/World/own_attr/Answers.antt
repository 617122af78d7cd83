use Rattle.class_world.proofs.Lemmas.{sym, ◌∙◌, the_view, Holds, IsClass, opened-one, own-seen, own-there}
use Rattle.class_world.proofs.world.World.own_attr.Goals as goal

pub get_direct_attr-requires : goal.get_direct_attr-requires
unfolding Holds
get_direct_attr-requires c = opened-one (the_view c.self.inside) c.args.self.now (IsClass c.args.class.0) c.self.view_is c.requires

pub returns-clause-found : goal.returns-clause-found
returns-clause-found c = λ t r. own-seen (the_view c.self.inside) c.args.self.now c.self.view_is t c.args.class.0 c.args.name ∙ sym c.get_direct_attr.ensures

pub returns-clause-node : goal.returns-clause-node
returns-clause-node c = rw c.get_direct_attr.ensures (own-there (the_view c.self.inside) c.args.self.now c.self.view_is c.self.invariant c.args.class.0 c.args.name)
