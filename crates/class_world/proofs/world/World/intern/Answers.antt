use Rattle.class_world.proofs.Lemmas.{[], ap, sym, ◌∙◌, subst, slice_get_within, Stands, Held, AddsName, the_view, Holds, names-grow, grows-seen, names-sound}
use Rattle.std.proofs.Common.{◌∷◌, ◌++◌}
use Rattle.class_world.proofs.world.World.intern.Goals as goal

pub invariant_of-self-2 : goal.invariant_of-self-2
invariant_of-self-2 c = names-sound (the_view c.self.inside) c.self.invariant _ c.intern.ensures.grows

pub returns-clause-grows : goal.returns-clause-grows
returns-clause-grows c = grows-seen (the_view c.self.inside) _ _ c.self.view_is (names-grow _ _ c.intern.ensures.grows)

pub returns-clause-holds : goal.returns-clause-holds
unfolding Holds
returns-clause-holds c = slice_get_within _ _ _ c.in_ok-intern.ensures.spelled

pub returns-clause-adds : goal.returns-clause-adds
unfolding AddsName
returns-clause-adds c =
    let w = the_view c.self.inside in
    let v = c.self.view_is in (
      λ s. ap (λ xs. record w { names = xs }) (c.intern.ensures.same (subst (λ (u : Held). Stands u.names c.args.text.now) (sym v) s)) ∙ v,
      λ none. ap (λ xs. record w { names = xs }) (c.in_ok-intern.ensures.added (λ s. none (subst (λ (u : Held). Stands u.names c.args.text.now) v s))) ∙ ap (λ (u : Held). record u { names = u.names ++ c.args.text.now ∷ [] }) v,
    )
