use Rattle.class_world.proofs.Lemmas.{ℕ, Some, sym, ◌∙◌, subst, IfSome, the_view, Held, place_at, Holds, IsNode, of_node, each-get, got, opened-one, member-read, member-none, member-there}
use Rattle.std.proofs.Common.{◌≡◌}
use Rattle.class_world.proofs.world.World.member.Goals as goal

pub index-node-requires : goal.index-node-requires
unfolding Holds
index-node-requires c = rw c.self.inside.nodes.ok.0 (opened-one (the_view c.self.inside) c.args.self.now (IsNode c.args.object) c.self.view_is c.requires.object)

pub fast_issubclass-requires : goal.fast_issubclass-requires
unfolding Holds
fast_issubclass-requires c =
    let w = the_view c.self.inside in
    let here = opened-one w c.args.self.now (IsNode c.args.object) c.self.view_is c.requires.object in
    let n = c.index-node.result.now in
    (each-get w of_node w.nodes c.args.object.0 n (got w.nodes c.args.object.0 n here c.index-node.ensures) c.self.invariant.nodes).0

pub returns-then-fast_issubclass-clause-value : goal.returns-then-fast_issubclass-clause-value
unfolding Holds
returns-then-fast_issubclass-clause-value c = λ t.
    let w = the_view c.self.inside in
    let now = c.args.self.now in
    let here = opened-one w now (IsNode c.args.object) c.self.view_is c.requires.object in
    let n = c.index-node.result.now in
    let place = subst (λ (u : Held). (k : ℕ) × (place_at u.classes k c.args.offset ≡ Some (c.args.place.class.0, c.args.place.index))) (sym c.self.view_is) c.requires.place in
    member-read w now c.self.view_is c.args.object n (got w.nodes c.args.object.0 n here c.index-node.ensures) c.sound.ensures.sound place.0 c.args.offset c.args.place place.1 (sym c.fast_issubclass.ensures ∙ c.if-fast_issubclass.true) t
    ∙ sym c.get.ensures

pub returns-then-fast_issubclass-clause-node : goal.returns-then-fast_issubclass-clause-node
unfolding Holds
returns-then-fast_issubclass-clause-node c =
    let w = the_view c.self.inside in
    let now = c.args.self.now in
    let here = opened-one w now (IsNode c.args.object) c.self.view_is c.requires.object in
    let n = c.index-node.result.now in
    subst (λ o. IfSome o (λ m. Holds now (IsNode m))) (sym c.get.ensures) (member-there w now c.self.view_is c.args.object n (got w.nodes c.args.object.0 n here c.index-node.ensures) c.self.invariant c.args.offset)

pub returns-else-fast_issubclass-clause-value : goal.returns-else-fast_issubclass-clause-value
unfolding Holds
returns-else-fast_issubclass-clause-value c = λ t.
    let w = the_view c.self.inside in
    let now = c.args.self.now in
    let here = opened-one w now (IsNode c.args.object) c.self.view_is c.requires.object in
    let n = c.index-node.result.now in
    member-none w now c.self.view_is c.args.object n (got w.nodes c.args.object.0 n here c.index-node.ensures) c.args.place (sym c.fast_issubclass.ensures ∙ c.if-fast_issubclass.false) t
