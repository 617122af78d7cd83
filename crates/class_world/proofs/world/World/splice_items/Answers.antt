use Rattle.class_world.proofs.Lemmas.{the_view, Holds, IsNode, opened-one, end-there, kind-there, spliced}
use Rattle.class_world.proofs.world.World.splice_items.Goals as goal

pub index_mut-requires : goal.index_mut-requires
unfolding Holds
index_mut-requires c = rw c.self.inside.nodes.ok.0 (opened-one (the_view c.self.inside) c.args.self.now (IsNode c.args.list) c.self.view_is c.requires.list)

pub splice_items-requires-clause-list : goal.splice_items-requires-clause-list
splice_items-requires-clause-list c =
    let n = c.index_mut.result.now in
    kind-there (the_view c.self.inside) c.args.self.now c.args.list n n c.self.view_is c.self.invariant c.requires.list c.requires.holding c.index_mut.ensures.value

pub splice_items-requires-clause-within : goal.splice_items-requires-clause-within
splice_items-requires-clause-within c =
    let n = c.index_mut.result.now in
    let t = c.readable.ensures.0 in
    end-there (the_view c.self.inside) c.args.self.now c.args.list n n c.self.view_is c.self.invariant c.requires.list c.requires.holding c.index_mut.ensures.value c.args.stop t (c.requires.within t)

pub invariant_of-self : goal.invariant_of-self
invariant_of-self c =
    (spliced (the_view c.self.inside) c.args.self.now c.args.list c.index_mut.result.now c.splice_items.new.node c.self.view_is c.self.invariant c.requires.list c.requires.holding c.index_mut.ensures.value c.splice_items.result c.args.start c.args.stop c.args.others.items c.splice_items.ensures.ok c.splice_items.ensures.err c.requires.others).sound

pub returns-clause-spliced : goal.returns-clause-spliced
returns-clause-spliced c =
    (spliced (the_view c.self.inside) c.args.self.now c.args.list c.index_mut.result.now c.splice_items.new.node c.self.view_is c.self.invariant c.requires.list c.requires.holding c.index_mut.ensures.value c.splice_items.result c.args.start c.args.stop c.args.others.items c.splice_items.ensures.ok c.splice_items.ensures.err c.requires.others).ok

pub returns-clause-err : goal.returns-clause-err
returns-clause-err c =
    (spliced (the_view c.self.inside) c.args.self.now c.args.list c.index_mut.result.now c.splice_items.new.node c.self.view_is c.self.invariant c.requires.list c.requires.holding c.index_mut.ensures.value c.splice_items.result c.args.start c.args.stop c.args.others.items c.splice_items.ensures.ok c.splice_items.ensures.err c.requires.others).err

pub returns-clause-grows : goal.returns-clause-grows
returns-clause-grows c =
    (spliced (the_view c.self.inside) c.args.self.now c.args.list c.index_mut.result.now c.splice_items.new.node c.self.view_is c.self.invariant c.requires.list c.requires.holding c.index_mut.ensures.value c.splice_items.result c.args.start c.args.stop c.args.others.items c.splice_items.ensures.ok c.splice_items.ensures.err c.requires.others).grows
