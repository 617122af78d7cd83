use Rattle.class_world.proofs.Lemmas.{length, sym, ap, ◌∙◌, subst, IfSome, position, PlainDict, is_same_key, the_view, dict_in, Holds, IsNode, got, opened-one, dict-seen, held-hold, no-dict}
use Rattle.std.proofs.Common.{◌<◌}
use Rattle.class_world.proofs.world.World.place_of.Goals as goal

pub index-requires : goal.index-requires
unfolding Holds
index-requires c = rw c.self.inside.nodes.ok.0 (opened-one (the_view c.self.inside) c.args.self.now (IsNode c.args.dict) c.self.view_is c.requires)

pub returns-in-Dict-clause-first : goal.returns-in-Dict-clause-first
unfolding Holds
returns-in-Dict-clause-first c =
    let w = the_view c.self.inside in
    let here = opened-one w c.args.self.now (IsNode c.args.dict) c.self.view_is c.requires in
    let e = got w.nodes c.args.dict.0 c.index.result.now here c.index.ensures in
    let same = dict-seen w c.args.self.now c.args.dict c.index.result.now c.self.view_is e ∙ ap dict_in c.in-Dict.is in
    c.place_of.ensures.first ∙ ap (λ (d : PlainDict). position (is_same_key c.args.key) d.keys) (sym same)

pub returns-in-Dict-clause-below : goal.returns-in-Dict-clause-below
unfolding Holds
returns-in-Dict-clause-below c =
    let w = the_view c.self.inside in
    let here = opened-one w c.args.self.now (IsNode c.args.dict) c.self.view_is c.requires in
    let e = got w.nodes c.args.dict.0 c.index.result.now here c.index.ensures in
    let same = dict-seen w c.args.self.now c.args.dict c.index.result.now c.self.view_is e ∙ ap dict_in c.in-Dict.is in
    subst (λ (d : PlainDict). IfSome c.place_of.result (λ n. n < length d.items)) (sym same) c.place_of.ensures.below

pub returns-in-Dict-clause-holds : goal.returns-in-Dict-clause-holds
unfolding Holds
returns-in-Dict-clause-holds c =
    let w = the_view c.self.inside in
    let here = opened-one w c.args.self.now (IsNode c.args.dict) c.self.view_is c.requires in
    let e = got w.nodes c.args.dict.0 c.index.result.now here c.index.ensures in
    held-hold w c.args.self.now c.args.dict c.index.result.now c.self.view_is e c.self.invariant

pub returns-in_default-clause-first : goal.returns-in_default-clause-first
unfolding Holds
returns-in_default-clause-first c =
    let w = the_view c.self.inside in
    let here = opened-one w c.args.self.now (IsNode c.args.dict) c.self.view_is c.requires in
    let e = got w.nodes c.args.dict.0 c.index.result.now here c.index.ensures in
    let same = dict-seen w c.args.self.now c.args.dict c.index.result.now c.self.view_is e ∙ no-dict c.index.result.now.payload c.in_default.not-Dict in
    ap (λ (d : PlainDict). position (is_same_key c.args.key) d.keys) (sym same)

pub returns-in_default-clause-holds : goal.returns-in_default-clause-holds
unfolding Holds
returns-in_default-clause-holds c =
    let w = the_view c.self.inside in
    let here = opened-one w c.args.self.now (IsNode c.args.dict) c.self.view_is c.requires in
    let e = got w.nodes c.args.dict.0 c.index.result.now here c.index.ensures in
    held-hold w c.args.self.now c.args.dict c.index.result.now c.self.view_is e c.self.invariant
