use Rattle.class_world.proofs.Lemmas.{the_view, Holds, IsNode, opened-one, item-set, place-there}
use Rattle.class_world.proofs.world.World.set_item.Goals as goal

pub index_mut-requires : goal.index_mut-requires
unfolding Holds
index_mut-requires c = rw c.self.inside.nodes.ok.0 (opened-one (the_view c.self.inside) c.args.self.now (IsNode c.args.list) c.self.view_is c.requires.list)

pub set_item-requires : goal.set_item-requires
set_item-requires c =
    let n = c.index_mut.result.now in
    let t = c.readable.ensures.0 in
    place-there (the_view c.self.inside) c.args.self.now c.args.list n n c.self.view_is c.self.invariant c.requires.list c.requires.holding c.index_mut.ensures.value c.args.place t (c.requires.place t)

pub invariant_of-self : goal.invariant_of-self
invariant_of-self c =
    (item-set (the_view c.self.inside) c.args.self.now c.args.list c.index_mut.result.now c.set_item.new.node c.self.view_is c.self.invariant c.requires.list c.requires.holding c.index_mut.ensures.value c.args.place c.args.item c.set_item.ensures c.requires.item).sound

pub returns-clause-set : goal.returns-clause-set
returns-clause-set c =
    (item-set (the_view c.self.inside) c.args.self.now c.args.list c.index_mut.result.now c.set_item.new.node c.self.view_is c.self.invariant c.requires.list c.requires.holding c.index_mut.ensures.value c.args.place c.args.item c.set_item.ensures c.requires.item).reads

pub returns-clause-grows : goal.returns-clause-grows
returns-clause-grows c =
    (item-set (the_view c.self.inside) c.args.self.now c.args.list c.index_mut.result.now c.set_item.new.node c.self.view_is c.self.invariant c.requires.list c.requires.holding c.index_mut.ensures.value c.args.place c.args.item c.set_item.ensures c.requires.item).grows
