use Rattle.class_world.proofs.Lemmas.{the_view, Holds, IsNode, opened-one, item-taken, place-there}
use Rattle.class_world.proofs.world.World.take_item.Goals as goal

pub index_mut-requires : goal.index_mut-requires
unfolding Holds
index_mut-requires c = rw c.self.inside.nodes.ok.0 (opened-one (the_view c.self.inside) c.args.self.now (IsNode c.args.list) c.self.view_is c.requires.list)

pub take_item-requires : goal.take_item-requires
take_item-requires c =
    let n = c.index_mut.result.now in
    let t = c.readable.ensures.0 in
    place-there (the_view c.self.inside) c.args.self.now c.args.list n n c.self.view_is c.self.invariant c.requires.list c.requires.holding c.index_mut.ensures.value c.args.place t (c.requires.place t)

pub invariant_of-self : goal.invariant_of-self
invariant_of-self c =
    (item-taken (the_view c.self.inside) c.args.self.now c.args.list c.index_mut.result.now c.take_item.new.node c.self.view_is c.self.invariant c.requires.list c.requires.holding c.index_mut.ensures.value c.args.place c.take_item.ensures).sound

pub returns-clause-taken : goal.returns-clause-taken
returns-clause-taken c =
    (item-taken (the_view c.self.inside) c.args.self.now c.args.list c.index_mut.result.now c.take_item.new.node c.self.view_is c.self.invariant c.requires.list c.requires.holding c.index_mut.ensures.value c.args.place c.take_item.ensures).reads

pub returns-clause-grows : goal.returns-clause-grows
returns-clause-grows c =
    (item-taken (the_view c.self.inside) c.args.self.now c.args.list c.index_mut.result.now c.take_item.new.node c.self.view_is c.self.invariant c.requires.list c.requires.holding c.index_mut.ensures.value c.args.place c.take_item.ensures).grows
