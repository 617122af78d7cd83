use Rattle.class_world.proofs.Lemmas.{ap, option_map, the_view, Holds, IsNode, got, opened-one, node-read, node-holds}
use Rattle.class_world.proofs.world.World.class_of.Goals as goal

pub index-requires : goal.index-requires
unfolding Holds
index-requires c = rw c.self.inside.nodes.ok.0 (opened-one (the_view c.self.inside) c.args.self.now (IsNode c.args.node) c.self.view_is c.requires)

pub returns-clause-reads : goal.returns-clause-reads
unfolding Holds
returns-clause-reads c = λ t.
    let w = the_view c.self.inside in
    let here = opened-one w c.args.self.now (IsNode c.args.node) c.self.view_is c.requires in
    let e = got w.nodes c.args.node.0 c.index.result.now here c.index.ensures in
    ap (option_map (λ n. n.class)) (node-read w c.args.self.now c.args.node c.index.result.now c.self.view_is e t)

pub returns-clause-holds : goal.returns-clause-holds
unfolding Holds
returns-clause-holds c =
    let w = the_view c.self.inside in
    let here = opened-one w c.args.self.now (IsNode c.args.node) c.self.view_is c.requires in
    let e = got w.nodes c.args.node.0 c.index.result.now here c.index.ensures in
    (node-holds w c.args.self.now c.args.node c.index.result.now c.self.view_is c.self.invariant e).0
