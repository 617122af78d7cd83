use Rattle.class_world.proofs.Lemmas.{sym, subst, IfNone, IfSome, PyDictKey, the_view, Held, Holds, IsNode, NamesKey, key_in, got, opened-one, key-held}
use Rattle.class_world.proofs.world.World.known_key.Goals as goal

pub index-requires : goal.index-requires
unfolding Holds
index-requires c = rw c.self.inside.nodes.ok.0 (opened-one (the_view c.self.inside) c.args.self.now (IsNode c.args.key) c.self.view_is c.requires)

pub returns-clause-read : goal.returns-clause-read
unfolding Holds
returns-clause-read c =
    let w = the_view c.self.inside in
    let now = c.args.self.now in
    let n = c.index.result.now in
    let here = opened-one w now (IsNode c.args.key) c.self.view_is c.requires in
    let same = key-held w now c.args.key n c.self.view_is (got w.nodes c.args.key.0 n here c.index.ensures) in
    subst (λ o. IfSome c.known_key.result (λ k. NamesKey now.names k o)) (sym same) (subst (λ (u : Held). IfSome c.known_key.result (λ k. NamesKey u.names k (key_in n.payload))) c.self.view_is c.known_key.ensures.read)

pub returns-clause-none : goal.returns-clause-none
unfolding Holds
returns-clause-none c =
    let w = the_view c.self.inside in
    let now = c.args.self.now in
    let n = c.index.result.now in
    let here = opened-one w now (IsNode c.args.key) c.self.view_is c.requires in
    let same = key-held w now c.args.key n c.self.view_is (got w.nodes c.args.key.0 n here c.index.ensures) in
    subst (λ o. IfNone c.known_key.result ((k : PyDictKey) → NamesKey now.names k o → ⊥)) (sym same) (subst (λ (u : Held). IfNone c.known_key.result ((k : PyDictKey) → NamesKey u.names k (key_in n.payload) → ⊥)) c.self.view_is c.known_key.ensures.none)
