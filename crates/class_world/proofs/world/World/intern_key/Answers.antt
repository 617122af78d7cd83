use Rattle.class_world.proofs.Lemmas.{[], refl, sym, ap, ◌∙◌, arith, is_some, the_view, Held, Holds, IsNode, KeysRead, NamesKey, key_in, names-sound, got, opened-one, grows-seen, names-grow, key-held, ok-map}
use Rattle.std.proofs.Common.{◌∷◌}
use Rattle.class_world.proofs.world.World.intern_key.Goals as goal

pub index-requires : goal.index-requires
unfolding Holds
index-requires c = rw c.self.inside.nodes.ok.0 (opened-one (the_view c.self.inside) c.args.self.now (IsNode c.args.key) c.self.view_is c.requires.node)

pub key_named-requires : goal.key_named-requires
unfolding Holds
key_named-requires c =
    let w = the_view c.self.inside in
    let now = c.args.self.now in
    let here = opened-one w now (IsNode c.args.key) c.self.view_is c.requires.node in
    let e = got w.nodes c.args.key.0 c.index.result.now here c.index.ensures in
    sym (ap is_some (key-held w now c.args.key c.index.result.now c.self.view_is e)) ∙ c.requires.can 0 c.args.key (omega arith)

pub invariant_of-self : goal.invariant_of-self
invariant_of-self c = names-sound (the_view c.self.inside) c.self.invariant _ c.key_named.ensures.grows

pub returns-clause-read : goal.returns-clause-read
unfolding Holds
returns-clause-read c =
    let w = the_view c.self.inside in
    let n = c.index.result.now in
    let names = c.key_named.new.names in
    let here = opened-one w c.args.self.now (IsNode c.args.key) c.self.view_is c.requires.node in
    let e = got w.nodes c.args.key.0 n here c.index.ensures in
    let new : Held = record w { names = names } in
    ok-map (λ k. NamesKey names k (key_in n.payload)) (λ k. Holds new (KeysRead (k ∷ []) (c.args.key ∷ []))) c.key_named.result (λ k h. ((h.0, h.1, key-held w w c.args.key n refl e ∙ h.2), tt)) c.key_named.ensures.read

pub returns-clause-grows : goal.returns-clause-grows
returns-clause-grows c = grows-seen (the_view c.self.inside) _ _ c.self.view_is (names-grow _ _ c.key_named.ensures.grows)
