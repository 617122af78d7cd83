use Rattle.class_world.proofs.Lemmas.{AreNamesDistinct, ℕ, List, map, take, ap, sym, ◌∙◌, take-map, at_depth, Held, Scope, the_view, Reading, plain, scope_of, of_scope, each-take, lasts-seen, all-take, other-sound, other-lasts}
use Rattle.std.proofs.Common.{◌≡◌}
use Rattle.class_world.proofs.world.World.end_bodies.Goals as goal

pub invariant_of-self : goal.invariant_of-self
invariant_of-self c =
    let w = the_view c.self.inside in
    rw c.truncate.ensures.items (other-sound w w.vars _ w.calls c.self.invariant c.self.invariant.vars (each-take w of_scope w.scopes _ c.self.invariant.scopes) c.self.invariant.apart (all-take (λ (s : Scope). AreNamesDistinct s.vars) _ w.scopes c.self.invariant.scopes_apart))

pub returns-clause-lasts : goal.returns-clause-lasts
returns-clause-lasts c = lasts-seen (the_view c.self.inside) _ _ c.self.view_is (other-lasts _ _ _ _)

-- the first scopes, as they are read
first-read : (t : Reading) (w : Held) (n : ℕ) (ss : List Scope) → ss ≡ take n w.scopes → plain t (record w { scopes = ss }) ≡ at_depth n (plain t w)
unfolding plain
first-read t w n ss e =
    ap (λ ss. record (plain t w) { scopes = map (scope_of t) ss }) e
    ∙ ap (λ ss. record (plain t w) { scopes = ss }) (sym (take-map (scope_of t) n w.scopes))

pub returns-clause-ended : goal.returns-clause-ended
returns-clause-ended c = λ t.
    first-read t (the_view c.self.inside) c.args.depth _ c.truncate.ensures.items
    ∙ ap (λ w. at_depth c.args.depth (plain t w)) c.self.view_is
