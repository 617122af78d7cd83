use Rattle.class_world.proofs.Lemmas.{ap, true, refl, sym, subst, ◌∙◌, nat_lt, slice_get, option_map, option_and_then, all_built_ins, holds_as, is_class, lin, built_ins, first_with, Holds, place-at, line-seen}
use Rattle.std.proofs.Common.{◌≡◌}
use Rattle.class_world.proofs.world.World.nearest_built_in.Goals as goal

pub mro-requires : goal.mro-requires
unfolding Holds
mro-requires c = subst (λ ks. is_class ks c.args.class.0 ≡ true) (sym c.classes.ensures.same) c.requires

pub returns-clause-nearest : goal.returns-clause-nearest
returns-clause-nearest c = λ t.
    let now = c.args.self.now in
    let line = ap (λ ks. lin ks c.args.class.0) (sym c.classes.ensures.same) ∙ c.mro.ensures.line in
    ap (option_and_then (first_with (λ d. nat_lt d built_ins))) (line-seen now now refl t c.args.class.0 ∙ line) ∙ c.first_built_in.ensures

pub returns-clause-of : goal.returns-clause-of
unfolding Holds
returns-clause-of c = λ b e.
    let line = ap (λ ks. lin ks c.args.class.0) (sym c.classes.ensures.same) ∙ c.mro.ensures.line in
    let near = ap (option_and_then (first_with (λ d. nat_lt d built_ins))) line ∙ c.first_built_in.ensures ∙ e in
    ap (λ o. option_map holds_as (option_and_then (slice_get all_built_ins) o)) near ∙ ap (option_map holds_as) (place-at b)
