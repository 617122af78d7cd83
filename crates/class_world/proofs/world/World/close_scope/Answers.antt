use Rattle.class_world.proofs.Lemmas.{AreNamesDistinct, Scope, the_view, of_scope, each-take, lasts-seen, all-take, other-sound, other-lasts}
use Rattle.class_world.proofs.world.World.close_scope.Goals as goal

pub invariant_of-self : goal.invariant_of-self
invariant_of-self c =
    let w = the_view c.self.inside in
    rw c.pop.ensures.rest (other-sound w w.vars _ w.calls c.self.invariant c.self.invariant.vars (each-take w of_scope w.scopes _ c.self.invariant.scopes) c.self.invariant.apart (all-take (λ (s : Scope). AreNamesDistinct s.vars) _ w.scopes c.self.invariant.scopes_apart))

pub returns-clause-lasts : goal.returns-clause-lasts
returns-clause-lasts c = lasts-seen (the_view c.self.inside) _ _ c.self.view_is (other-lasts _ _ _ _)
