use Rattle.class_world.proofs.Lemmas.{Some, place_at, some-of, offset-place, the_view, of_setter, Holds, IsNode, IsOffset, got, opened, opened-one, grows-seen, instance-sub, offset-fits, member-sound, member-grows, member-set, member-stands}
use Rattle.class_world.proofs.world.World.set_member_value.Goals as goal

pub index_mut-requires : goal.index_mut-requires
unfolding Holds
index_mut-requires c = rw c.self.inside.nodes.ok.0 (opened-one (the_view c.self.inside) c.args.self.now (IsNode c.args.object) c.self.view_is c.requires.object)

pub set_member-requires : goal.set_member-requires
unfolding Holds
set_member-requires c =
    let w = the_view c.self.inside in
    let now = c.args.self.now in
    let n = c.index_mut.result.now in
    let here = opened-one w now (IsNode c.args.object) c.self.view_is c.requires.object in
    let at = got w.nodes c.args.object.0 n here c.index_mut.ensures.value in
    let t = c.readable.ensures.0 in
    let sub = instance-sub w now c.self.view_is c.args.object n at t c.args.class.0 (c.requires.instance t) in
    let p = some-of (place_at w.classes c.args.class.0 c.args.offset) (offset-place w.classes c.args.class.0 c.args.offset (opened-one w now (IsOffset c.args.class.0 (Some c.args.offset)) c.self.view_is c.requires.place)) in
    offset-fits w now c.self.view_is c.args.object n at c.self.invariant c.sound.ensures.sound c.args.class.0 c.args.offset p.0 p.1 sub

pub invariant_of-self : goal.invariant_of-self
unfolding Holds
invariant_of-self c =
    let w = the_view c.self.inside in
    let now = c.args.self.now in
    let n = c.index_mut.result.now in
    let here = opened-one w now (IsNode c.args.object) c.self.view_is c.requires.object in
    let at = got w.nodes c.args.object.0 n here c.index_mut.ensures.value in
    let t = c.readable.ensures.0 in
    let sub = instance-sub w now c.self.view_is c.args.object n at t c.args.class.0 (c.requires.instance t) in
    let p = some-of (place_at w.classes c.args.class.0 c.args.offset) (offset-place w.classes c.args.class.0 c.args.offset (opened-one w now (IsOffset c.args.class.0 (Some c.args.offset)) c.self.view_is c.requires.place)) in
    member-sound w now c.self.view_is c.args.object n at c.self.invariant c.sound.ensures.sound c.args.class.0 c.args.offset p.0 p.1 sub c.args.value c.set_member.new.node c.set_member.ensures c.index_mut.ensures.value (opened w now (of_setter c.args.value) c.self.view_is c.requires.value)

pub returns-clause-set : goal.returns-clause-set
unfolding Holds
returns-clause-set c = λ t.
    let w = the_view c.self.inside in
    let now = c.args.self.now in
    let n = c.index_mut.result.now in
    let here = opened-one w now (IsNode c.args.object) c.self.view_is c.requires.object in
    let at = got w.nodes c.args.object.0 n here c.index_mut.ensures.value in
    let sub = instance-sub w now c.self.view_is c.args.object n at t c.args.class.0 (c.requires.instance t) in
    let p = some-of (place_at w.classes c.args.class.0 c.args.offset) (offset-place w.classes c.args.class.0 c.args.offset (opened-one w now (IsOffset c.args.class.0 (Some c.args.offset)) c.self.view_is c.requires.place)) in
    member-set w now c.self.view_is c.args.object n at c.self.invariant c.sound.ensures.sound c.args.class.0 c.args.offset p.0 p.1 sub c.args.value c.set_member.new.node c.set_member.ensures c.index_mut.ensures.value here t

pub returns-clause-stands : goal.returns-clause-stands
unfolding Holds
returns-clause-stands c = λ t.
    let w = the_view c.self.inside in
    let now = c.args.self.now in
    let n = c.index_mut.result.now in
    let here = opened-one w now (IsNode c.args.object) c.self.view_is c.requires.object in
    let at = got w.nodes c.args.object.0 n here c.index_mut.ensures.value in
    let sub = instance-sub w now c.self.view_is c.args.object n at t c.args.class.0 (c.requires.instance t) in
    let p = some-of (place_at w.classes c.args.class.0 c.args.offset) (offset-place w.classes c.args.class.0 c.args.offset (opened-one w now (IsOffset c.args.class.0 (Some c.args.offset)) c.self.view_is c.requires.place)) in
    member-stands w now c.self.view_is c.args.object n at c.self.invariant c.sound.ensures.sound c.args.class.0 c.args.offset p.0 p.1 sub c.args.value c.set_member.new.node c.set_member.ensures c.index_mut.ensures.value here t

pub returns-clause-grows : goal.returns-clause-grows
unfolding Holds
returns-clause-grows c =
    let w = the_view c.self.inside in
    let now = c.args.self.now in
    let n = c.index_mut.result.now in
    let here = opened-one w now (IsNode c.args.object) c.self.view_is c.requires.object in
    let at = got w.nodes c.args.object.0 n here c.index_mut.ensures.value in
    let t = c.readable.ensures.0 in
    let sub = instance-sub w now c.self.view_is c.args.object n at t c.args.class.0 (c.requires.instance t) in
    let p = some-of (place_at w.classes c.args.class.0 c.args.offset) (offset-place w.classes c.args.class.0 c.args.offset (opened-one w now (IsOffset c.args.class.0 (Some c.args.offset)) c.self.view_is c.requires.place)) in
    grows-seen w _ _ c.self.view_is (member-grows w now c.self.view_is c.args.object n at c.self.invariant c.sound.ensures.sound c.args.class.0 c.args.offset p.0 p.1 sub c.args.value c.set_member.new.node c.set_member.ensures c.index_mut.ensures.value)
