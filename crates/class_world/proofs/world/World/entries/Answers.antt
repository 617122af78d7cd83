use Rattle.class_world.proofs.Lemmas.{sym, ap, ◌∙◌, PlainDict, the_view, dict_in, Holds, IsNode, got, opened-one, dict-seen, held-hold, no-dict}
use Rattle.class_world.proofs.world.World.entries.Goals as goal

pub index-requires : goal.index-requires
unfolding Holds
index-requires c = rw c.self.inside.nodes.ok.0 (opened-one (the_view c.self.inside) c.args.self.now (IsNode c.args.dict) c.self.view_is c.requires)

pub returns-in-Dict-clause-same : goal.returns-in-Dict-clause-same
unfolding Holds
returns-in-Dict-clause-same c =
    let w = the_view c.self.inside in
    let here = opened-one w c.args.self.now (IsNode c.args.dict) c.self.view_is c.requires in
    let e = got w.nodes c.args.dict.0 c.index.result.now here c.index.ensures in
    ap (λ (d : PlainDict). d.items) (dict-seen w c.args.self.now c.args.dict c.index.result.now c.self.view_is e ∙ ap dict_in c.in-Dict.is) ∙ sym c.entries.ensures.entries

pub returns-in-Dict-clause-holds : goal.returns-in-Dict-clause-holds
unfolding Holds
returns-in-Dict-clause-holds c =
    let w = the_view c.self.inside in
    let here = opened-one w c.args.self.now (IsNode c.args.dict) c.self.view_is c.requires in
    let e = got w.nodes c.args.dict.0 c.index.result.now here c.index.ensures in
    held-hold w c.args.self.now c.args.dict c.index.result.now c.self.view_is e c.self.invariant

pub returns-in_default-clause-same : goal.returns-in_default-clause-same
unfolding Holds
returns-in_default-clause-same c =
    let w = the_view c.self.inside in
    let here = opened-one w c.args.self.now (IsNode c.args.dict) c.self.view_is c.requires in
    let e = got w.nodes c.args.dict.0 c.index.result.now here c.index.ensures in
    ap (λ (d : PlainDict). d.items) (dict-seen w c.args.self.now c.args.dict c.index.result.now c.self.view_is e ∙ no-dict c.index.result.now.payload c.in_default.not-Dict)

pub returns-in_default-clause-holds : goal.returns-in_default-clause-holds
unfolding Holds
returns-in_default-clause-holds c =
    let w = the_view c.self.inside in
    let here = opened-one w c.args.self.now (IsNode c.args.dict) c.self.view_is c.requires in
    let e = got w.nodes c.args.dict.0 c.index.result.now here c.index.ensures in
    held-hold w c.args.self.now c.args.dict c.index.result.now c.self.view_is e c.self.invariant
