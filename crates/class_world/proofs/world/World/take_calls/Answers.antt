use Rattle.class_world.proofs.Lemmas.{the_view, lasts-seen, other-sound, other-lasts}
use Rattle.class_world.proofs.world.World.take_calls.Goals as goal

pub invariant_of-self : goal.invariant_of-self
invariant_of-self c =
    let w = the_view c.self.inside in
    other-sound w w.vars w.scopes _ c.self.invariant c.self.invariant.vars c.self.invariant.scopes c.self.invariant.apart c.self.invariant.scopes_apart

pub returns-clause-lasts : goal.returns-clause-lasts
returns-clause-lasts c = lasts-seen (the_view c.self.inside) _ _ c.self.view_is (other-lasts _ _ _ _)
