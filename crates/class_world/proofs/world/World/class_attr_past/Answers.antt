use Rattle.class_world.proofs.Lemmas.{sym, ◌∙◌, the_view, Holds, IsClass, opened-one, past-seen, past-there}
use Rattle.class_world.proofs.world.World.class_attr_past.Goals as goal

pub get_super_attr-requires : goal.get_super_attr-requires
unfolding Holds
get_super_attr-requires c = opened-one (the_view c.self.inside) c.args.self.now (IsClass c.args.class.0) c.self.view_is c.requires

pub returns-clause-found : goal.returns-clause-found
returns-clause-found c = λ t r. past-seen (the_view c.self.inside) c.args.self.now c.self.view_is t c.args.class.0 c.args.name ∙ sym c.get_super_attr.ensures

pub returns-clause-node : goal.returns-clause-node
returns-clause-node c = rw c.get_super_attr.ensures (past-there (the_view c.self.inside) c.args.self.now c.self.view_is c.self.invariant c.args.class.0 c.args.name)
