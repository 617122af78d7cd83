use Rattle.proto_attr.proofs.Lemmas.{ap, true, refl, sym, subst, ◌∙◌, option_and_then, along, is_class, lin, is_text, plain, spelled, Holds, line-seen, after, line-classes}
use Rattle.std.proofs.Common.{◌≡◌}
use Rattle.proto_attr.proofs.proto_descr.super_get.find_after.Goals as goal

pub mro-requires : goal.mro-requires
unfolding Holds
mro-requires c = subst (λ ks. is_class ks c.args.start.0 ≡ true) (sym c.classes.ensures.same) c.requires.0

pub find_in-requires : goal.find_in-requires
unfolding Holds
find_in-requires c =
    let line = ap (λ ks. lin ks c.args.start.0) (sym c.classes.ensures.same) ∙ c.mro.ensures.line in
    line-classes c.args.world.now.classes c.args.start.0 c.mro.result.now line

pub returns-clause-found : goal.returns-clause-found
returns-clause-found c = λ t q.
    let now = c.args.world.now in
    let line = ap (λ ks. lin ks c.args.start.0) (sym c.classes.ensures.same) ∙ c.mro.ensures.line in
    ap (option_and_then (λ ds. along (λ y. is_text y (spelled t c.args.name)) (plain t now).classes (after c.args.class.0 ds))) (line-seen now now refl t c.args.start.0 ∙ line) ∙ c.find_in.ensures.found t q
