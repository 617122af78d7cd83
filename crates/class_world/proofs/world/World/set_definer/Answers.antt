use Rattle.class_world.proofs.Lemmas.{the_view, Holds, IsNode, IsClass, opened-one, grows-seen, define-grows, define-sound, define-read}
use Rattle.class_world.proofs.world.World.set_definer.Goals as goal

pub index_mut-requires : goal.index_mut-requires
unfolding Holds
index_mut-requires c = rw c.self.inside.nodes.ok.0 (opened-one (the_view c.self.inside) c.args.self.now (IsNode c.args.func) c.self.view_is c.requires.func)

pub invariant_of-self : goal.invariant_of-self
unfolding Holds
invariant_of-self c =
    let w = the_view c.self.inside in
    let now = c.args.self.now in
    let here = opened-one w now (IsNode c.args.func) c.self.view_is c.requires.func in
    let class = opened-one w now (IsClass c.args.class.0) c.self.view_is c.requires.class in
    define-sound w c.args.class c.args.func c.index_mut.result.now c.define.new.node here c.index_mut.ensures.value c.define.ensures class c.self.invariant

pub returns-clause-set : goal.returns-clause-set
unfolding Holds
returns-clause-set c =
    let w = the_view c.self.inside in
    let here = opened-one w c.args.self.now (IsNode c.args.func) c.self.view_is c.requires.func in
    define-read w c.args.class c.args.func c.index_mut.result.now c.define.new.node c.args.self.now c.self.view_is here c.index_mut.ensures.value c.define.ensures

pub returns-clause-grows : goal.returns-clause-grows
returns-clause-grows c = grows-seen (the_view c.self.inside) _ _ c.self.view_is (define-grows _ c.args.class c.args.func c.index_mut.result.now c.define.new.node c.index_mut.ensures.value c.define.ensures)
