use Rattle.class_world.proofs.Lemmas.{ap, ◌∙◌, is_some, the_view, Holds, IsNode, got, opened-one, key-held, one-can, key_at-read}
use Rattle.class_world.proofs.world.World.can_be_key.Goals as goal

pub index-requires : goal.index-requires
unfolding Holds
index-requires c = rw c.self.inside.nodes.ok.0 (opened-one (the_view c.self.inside) c.args.self.now (IsNode c.args.node) c.self.view_is c.requires)

pub returns-clause-key : goal.returns-clause-key
unfolding Holds
returns-clause-key c = λ t.
    let w = the_view c.self.inside in
    let now = c.args.self.now in
    let here = opened-one w now (IsNode c.args.node) c.self.view_is c.requires in
    let e = got w.nodes c.args.node.0 c.index.result.now here c.index.ensures in
    ap is_some (key_at-read t now c.args.node ∙ key-held w now c.args.node c.index.result.now c.self.view_is e) ∙ c.is_key.ensures

pub returns-clause-holds : goal.returns-clause-holds
unfolding Holds
returns-clause-holds c = λ q.
    let w = the_view c.self.inside in
    let now = c.args.self.now in
    let here = opened-one w now (IsNode c.args.node) c.self.view_is c.requires in
    let e = got w.nodes c.args.node.0 c.index.result.now here c.index.ensures in
    one-can now c.args.node (ap is_some (key-held w now c.args.node c.index.result.now c.self.view_is e) ∙ c.is_key.ensures ∙ q)
