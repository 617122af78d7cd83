use Rattle.class_world.proofs.Lemmas.{Option, Some, None, List, ap, subst, option_map, option_and_then, PyStrInterned, the_view, Holds, IsNode, home_of, home_at, held_params, params_in, of_option, of_dict_ref, of_payload, got, opened-one, all-rest, node-read, node-holds}
use Rattle.std.proofs.Common.{◌≡◌, IfSome}
use Rattle.class_world.proofs.world.World.payload.Goals as goal

pub index-requires : goal.index-requires
unfolding Holds
index-requires c = rw c.self.inside.nodes.ok.0 (opened-one (the_view c.self.inside) c.args.self.now (IsNode c.args.node) c.self.view_is c.requires)

pub returns-clause-reads : goal.returns-clause-reads
unfolding Holds
returns-clause-reads c = λ t.
    let w = the_view c.self.inside in
    let here = opened-one w c.args.self.now (IsNode c.args.node) c.self.view_is c.requires in
    let e = got w.nodes c.args.node.0 c.index.result.now here c.index.ensures in
    ap (option_map (λ n. n.datum)) (node-read w c.args.self.now c.args.node c.index.result.now c.self.view_is e t)

pub returns-clause-holds : goal.returns-clause-holds
unfolding Holds
returns-clause-holds c =
    let w = the_view c.self.inside in
    let here = opened-one w c.args.self.now (IsNode c.args.node) c.self.view_is c.requires in
    let e = got w.nodes c.args.node.0 c.index.result.now here c.index.ensures in
    let n = c.index.result.now in
    let all = node-holds w c.args.self.now c.args.node n c.self.view_is c.self.invariant e in
    all-rest c.args.self.now (of_option of_dict_ref n.dict) (of_payload n.payload) all.1.1.1.1

pub returns-clause-holding : goal.returns-clause-holding
unfolding Holds
returns-clause-holding c =
    let w = the_view c.self.inside in
    let here = opened-one w c.args.self.now (IsNode c.args.node) c.self.view_is c.requires in
    let e = got w.nodes c.args.node.0 c.index.result.now here c.index.ensures in
    subst (λ w. home_at w.nodes c.args.node.0 ≡ Some (home_of c.index.result.now.payload)) c.self.view_is (ap (option_map (λ n. home_of n.payload)) e)

pub returns-clause-params : goal.returns-clause-params
unfolding Holds
returns-clause-params c =
    let w = the_view c.self.inside in
    let here = opened-one w c.args.self.now (IsNode c.args.node) c.self.view_is c.requires in
    let e = got w.nodes c.args.node.0 c.index.result.now here c.index.ensures in
    let read = subst (λ w. held_params w.nodes c.args.node ≡ params_in c.index.result.now.payload) c.self.view_is (ap (option_and_then (λ n. params_in n.payload)) e) in
    go (params_in c.index.result.now.payload) read
  where
    go : (o : Option (List PyStrInterned)) → held_params c.args.self.now.nodes c.args.node ≡ o → IfSome o (λ ps. held_params c.args.self.now.nodes c.args.node ≡ Some ps)
    go None e = tt
    go (Some ps) e = e
