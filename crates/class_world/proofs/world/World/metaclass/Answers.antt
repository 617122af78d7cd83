use Rattle.class_world.proofs.Lemmas.{ap, subst, option_map, the_view, TypeType, Holds, IsNode, IsOf, Holding, home_of, got, opened-one, node-read, node-holds}
use Rattle.std.proofs.Common.{◌≡◌}
use Rattle.class_world.proofs.world.World.metaclass.Goals as goal

pub index-requires : goal.index-requires
unfolding Holds
index-requires c = rw c.self.inside.nodes.ok.0 (opened-one (the_view c.self.inside) c.args.self.now (IsNode c.args.node) c.self.view_is c.requires.node)

pub returns-clause-reads : goal.returns-clause-reads
unfolding Holds
returns-clause-reads c = λ t.
    let w = the_view c.self.inside in
    let here = opened-one w c.args.self.now (IsNode c.args.node) c.self.view_is c.requires.node in
    let e = got w.nodes c.args.node.0 c.index.result.now here c.index.ensures in
    ap (option_map (λ n. n.class)) (node-read w c.args.self.now c.args.node c.index.result.now c.self.view_is e t)

pub returns-clause-holds : goal.returns-clause-holds
unfolding Holds
returns-clause-holds c =
    let w = the_view c.self.inside in
    let here = opened-one w c.args.self.now (IsNode c.args.node) c.self.view_is c.requires.node in
    let e = got w.nodes c.args.node.0 c.index.result.now here c.index.ensures in
    (node-holds w c.args.self.now c.args.node c.index.result.now c.self.view_is c.self.invariant e).0

pub returns-clause-of : goal.returns-clause-of
unfolding Holds
returns-clause-of c =
    let w = the_view c.self.inside in
    let n = c.index.result.now in
    let here = opened-one w c.args.self.now (IsNode c.args.node) c.self.view_is c.requires.node in
    let e = got w.nodes c.args.node.0 n here c.index.ensures in
    let held = opened-one w c.args.self.now (Holding c.args.node TypeType) c.self.view_is c.requires.holding in
    let type : home_of n.payload ≡ TypeType = let h = ap (option_map (λ m. home_of m.payload)) e in cc in
    subst (λ b. Holds c.args.self.now (IsOf n.class.0 b)) type (node-holds w c.args.self.now c.args.node n c.self.view_is c.self.invariant e).1.0
