use Rattle.class_world.proofs.Lemmas.{AreNamesDistinct, Scope, the_view, IsNode, HasValues, of_binding, of_scope, of_each, opened, opened-one, each-push, lasts-seen, all-end, other-sound, other-lasts}
use Rattle.class_world.proofs.world.World.open_scope.Goals as goal

pub invariant_of-self-2 : goal.invariant_of-self-2
invariant_of-self-2 c =
    let w = the_view c.self.inside in
    let func = opened-one w c.args.self.now (IsNode c.args.func) c.self.view_is c.requires.func in
    let vars = opened w c.args.self.now (of_each of_binding c.args.vars) c.self.view_is c.requires.vars in
    let values = opened-one w c.args.self.now (HasValues c.args.func c.args.vars) c.self.view_is c.requires.values in
    let scope : Scope = record { func = c.args.func; vars = c.args.vars } in
    rw (c.push_reserved.ensures.items, c.in_ok-reserve.ensures.items)
    (other-sound w w.vars _ _ c.self.invariant c.self.invariant.vars (each-push w of_scope w.scopes scope c.self.invariant.scopes (func, (values, vars)))
    c.self.invariant.apart (all-end (λ (s : Scope). AreNamesDistinct s.vars) w.scopes scope c.self.invariant.scopes_apart c.len-count.ensures.distinct))

pub returns-clause-lasts : goal.returns-clause-lasts
returns-clause-lasts c = lasts-seen (the_view c.self.inside) _ _ c.self.view_is (other-lasts _ _ _ _)
