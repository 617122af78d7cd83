use Rattle.class_world.proofs.Lemmas.{the_view, Holds, IsNode, opened-one, kind-there, pushed}
use Rattle.class_world.proofs.world.World.push_items.Goals as goal

pub index_mut-requires : goal.index_mut-requires
unfolding Holds
index_mut-requires c = rw c.self.inside.nodes.ok.0 (opened-one (the_view c.self.inside) c.args.self.now (IsNode c.args.list) c.self.view_is c.requires.list)

pub push_items-requires : goal.push_items-requires
push_items-requires c =
    let n = c.index_mut.result.now in
    kind-there (the_view c.self.inside) c.args.self.now c.args.list n n c.self.view_is c.self.invariant c.requires.list c.requires.holding c.index_mut.ensures.value

pub invariant_of-self : goal.invariant_of-self
invariant_of-self c =
    (pushed (the_view c.self.inside) c.args.self.now c.args.list c.index_mut.result.now c.push_items.new.node c.self.view_is c.self.invariant c.requires.list c.requires.holding c.index_mut.ensures.value c.push_items.result c.args.more.now c.push_items.ensures.ok c.push_items.ensures.err c.requires.more).sound

pub returns-clause-pushed : goal.returns-clause-pushed
returns-clause-pushed c =
    (pushed (the_view c.self.inside) c.args.self.now c.args.list c.index_mut.result.now c.push_items.new.node c.self.view_is c.self.invariant c.requires.list c.requires.holding c.index_mut.ensures.value c.push_items.result c.args.more.now c.push_items.ensures.ok c.push_items.ensures.err c.requires.more).ok

pub returns-clause-err : goal.returns-clause-err
returns-clause-err c =
    (pushed (the_view c.self.inside) c.args.self.now c.args.list c.index_mut.result.now c.push_items.new.node c.self.view_is c.self.invariant c.requires.list c.requires.holding c.index_mut.ensures.value c.push_items.result c.args.more.now c.push_items.ensures.ok c.push_items.ensures.err c.requires.more).err

pub returns-clause-grows : goal.returns-clause-grows
returns-clause-grows c =
    (pushed (the_view c.self.inside) c.args.self.now c.args.list c.index_mut.result.now c.push_items.new.node c.self.view_is c.self.invariant c.requires.list c.requires.holding c.index_mut.ensures.value c.push_items.result c.args.more.now c.push_items.ensures.ok c.push_items.ensures.err c.requires.more).grows
