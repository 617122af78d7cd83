use Rattle.class_world.proofs.Lemmas.{Option, Some, None, ap, option_and_then, PyObjectRef, Dict, the_view, Holds, AllHold, IsNode, Holding, of_option, of_dict_ref, of_payload, got, opened-one, all-first, node-read, node-holds}
use Rattle.std.proofs.Common.{IfSome}
use Rattle.class_world.proofs.world.World.dict_of.Goals as goal

pub index-requires : goal.index-requires
unfolding Holds
index-requires c = rw c.self.inside.nodes.ok.0 (opened-one (the_view c.self.inside) c.args.self.now (IsNode c.args.object) c.self.view_is c.requires)

pub returns-clause-dict : goal.returns-clause-dict
unfolding Holds
returns-clause-dict c = λ t.
    let w = the_view c.self.inside in
    let here = opened-one w c.args.self.now (IsNode c.args.object) c.self.view_is c.requires in
    let e = got w.nodes c.args.object.0 c.index.result.now here c.index.ensures in
    ap (option_and_then (λ n. n.dict)) (node-read w c.args.self.now c.args.object c.index.result.now c.self.view_is e t)

pub returns-clause-node : goal.returns-clause-node
unfolding Holds
returns-clause-node c =
    let w = the_view c.self.inside in
    let here = opened-one w c.args.self.now (IsNode c.args.object) c.self.view_is c.requires in
    let e = got w.nodes c.args.object.0 c.index.result.now here c.index.ensures in
    let n = c.index.result.now in
    let all = node-holds w c.args.self.now c.args.object n c.self.view_is c.self.invariant e in
    go n.dict (all-first c.args.self.now (of_option of_dict_ref n.dict) (of_payload n.payload) all.1.1.1.1)
  where
    go : (d : Option PyObjectRef) → AllHold c.args.self.now (of_option of_dict_ref d) → IfSome d (λ d. Holds c.args.self.now (IsNode d))
    go None h = tt
    go (Some d) h = h.0

pub returns-clause-holding : goal.returns-clause-holding
unfolding Holds
returns-clause-holding c =
    let w = the_view c.self.inside in
    let here = opened-one w c.args.self.now (IsNode c.args.object) c.self.view_is c.requires in
    let e = got w.nodes c.args.object.0 c.index.result.now here c.index.ensures in
    let n = c.index.result.now in
    let all = node-holds w c.args.self.now c.args.object n c.self.view_is c.self.invariant e in
    go n.dict (all-first c.args.self.now (of_option of_dict_ref n.dict) (of_payload n.payload) all.1.1.1.1)
  where
    go : (d : Option PyObjectRef) → AllHold c.args.self.now (of_option of_dict_ref d) → IfSome d (λ d. Holds c.args.self.now (Holding d Dict))
    go None h = tt
    go (Some d) h = h.1.0
