use Rattle.class_world.proofs.Lemmas.{sym, ◌∙◌, the_view, Holds, IsClass, opened-one, candidates-seen, goes-first-seen}
use Rattle.class_world.proofs.world.World.class_candidates.Goals as goal

pub candidates-requires-clause-a : goal.candidates-requires-clause-a
unfolding Holds
candidates-requires-clause-a c = opened-one (the_view c.self.inside) c.args.self.now (IsClass c.args.a.0) c.self.view_is c.requires.a

pub candidates-requires-clause-b : goal.candidates-requires-clause-b
unfolding Holds
candidates-requires-clause-b c = opened-one (the_view c.self.inside) c.args.self.now (IsClass c.args.b.0) c.self.view_is c.requires.b

pub returns-clause-list : goal.returns-clause-list
returns-clause-list c = λ t r. candidates-seen (the_view c.self.inside) c.args.self.now c.args.left c.args.right c.args.a.0 c.args.b.0 c.self.view_is c.self.invariant t r ∙ sym c.candidates.ensures.list

pub returns-clause-first : goal.returns-clause-first
returns-clause-first c = λ t r. goes-first-seen (the_view c.self.inside) c.args.self.now c.args.right c.args.a.0 c.args.b.0 c.self.view_is c.self.invariant t r ∙ sym c.candidates.ensures.first
