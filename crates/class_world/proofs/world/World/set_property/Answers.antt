use Rattle.class_world.proofs.Lemmas.{subst, sym, the_view, with_parts, AllHold, IsNode, Holds, of_property, opened, opened-one, grows-seen, property-there, payload-grows, payload-sound, payload-read}
use Rattle.class_world.proofs.world.World.set_property.Goals as goal

pub index_mut-requires : goal.index_mut-requires
unfolding Holds
index_mut-requires c = rw c.self.inside.nodes.ok.0 (opened-one (the_view c.self.inside) c.args.self.now (IsNode c.args.node) c.self.view_is c.requires.node)

pub invariant_of-self : goal.invariant_of-self
invariant_of-self c =
    let w = the_view c.self.inside in
    let n = c.index_mut.result.now in
    let p = with_parts c.args.parts n.payload in
    let i = property-there w c.args.self.now c.args.node n c.args.parts c.self.view_is c.requires.node c.requires.holding c.index_mut.ensures.value in
    let all = subst (AllHold w) (sym i.claims) (opened w c.args.self.now (of_property c.args.parts) c.self.view_is c.requires.parts) in
    rw c.set_parts.ensures (payload-sound w c.args.self.now c.args.node n p c.index_mut.ensures.value i.lasts i.there all c.self.invariant)

pub returns-clause-set : goal.returns-clause-set
returns-clause-set c = λ t.
    let w = the_view c.self.inside in
    let n = c.index_mut.result.now in
    let p = with_parts c.args.parts n.payload in
    let i = property-there w c.args.self.now c.args.node n c.args.parts c.self.view_is c.requires.node c.requires.holding c.index_mut.ensures.value in
    rw (c.set_parts.ensures, ← i.read t) (payload-read w c.args.self.now c.args.node n p c.self.view_is i.there.below c.index_mut.ensures.value t)

pub returns-clause-grows : goal.returns-clause-grows
returns-clause-grows c =
    let w = the_view c.self.inside in
    let n = c.index_mut.result.now in
    let p = with_parts c.args.parts n.payload in
    let i = property-there w c.args.self.now c.args.node n c.args.parts c.self.view_is c.requires.node c.requires.holding c.index_mut.ensures.value in
    grows-seen w _ _ c.self.view_is (rw c.set_parts.ensures (payload-grows w c.args.self.now c.args.node n p c.index_mut.ensures.value i.lasts i.there.home))
