use Rattle.class_world.proofs.Lemmas.{sym, ◌∙◌, the_view, Holds, IsClass, opened-one, heap-seen}
use Rattle.class_world.proofs.world.World.class_is_heap.Goals as goal

pub is_heap-requires : goal.is_heap-requires
unfolding Holds
is_heap-requires c = opened-one (the_view c.self.inside) c.args.self.now (IsClass c.args.class.0) c.self.view_is c.requires

pub returns-clause-reads : goal.returns-clause-reads
returns-clause-reads c = λ t. heap-seen (the_view c.self.inside) c.args.self.now c.self.view_is t c.args.class.0 ∙ sym c.is_heap.ensures
