use Rattle.class_world.proofs.Lemmas.{Some, refl, sym, ap, ◌∙◌, is_some, option_and_then, Node, Dict, the_view, Holds, Holding, IsNode, of_node, with_dict_ref, got, opened-one, each-get, grows-seen, node-read, change-grows, change-sound, change-read, dict-set-holds}
use Rattle.class_world.proofs.world.World.set_dict.Goals as goal

pub index_mut-requires : goal.index_mut-requires
unfolding Holds
index_mut-requires c = rw c.self.inside.nodes.ok.0 (opened-one (the_view c.self.inside) c.args.self.now (IsNode c.args.object) c.self.view_is c.requires.object)

pub invariant_of-self : goal.invariant_of-self
unfolding Holds
invariant_of-self c =
    let w = the_view c.self.inside in
    let now = c.args.self.now in
    let here = opened-one w now (IsNode c.args.object) c.self.view_is c.requires.object in
    let dict = opened-one w now (IsNode c.args.dict) c.self.view_is c.requires.dict in
    let holding = opened-one w now (Holding c.args.dict Dict) c.self.view_is c.requires.holding in
    let n = c.index_mut.result.now in
    let at = got w.nodes c.args.object.0 n here c.index_mut.ensures.value in
    let t = c.readable.ensures.0 in
    let had = sym (ap (λ o. is_some (option_and_then (λ (x : Node). x.dict) o)) (node-read w now c.args.object n c.self.view_is at t)) ∙ c.requires.had t in
    rw c.set_dict.ensures (change-sound w c.args.object n (with_dict_ref n c.args.dict) c.index_mut.ensures.value refl (λ h. refl) (dict-set-holds w n c.args.dict had (each-get w of_node w.nodes c.args.object.0 n at c.self.invariant.nodes) dict holding) c.self.invariant)

pub returns-clause-set : goal.returns-clause-set
unfolding Holds
returns-clause-set c = λ t.
    let w = the_view c.self.inside in
    let here = opened-one w c.args.self.now (IsNode c.args.object) c.self.view_is c.requires.object in
    let n = c.index_mut.result.now in
    rw c.set_dict.ensures (change-read w c.args.self.now c.self.view_is c.args.object n (with_dict_ref n c.args.dict) (λ x. record x { dict = Some c.args.dict }) t here c.index_mut.ensures.value refl)

pub returns-clause-grows : goal.returns-clause-grows
returns-clause-grows c =
    let w = the_view c.self.inside in
    let n = c.index_mut.result.now in
    rw c.set_dict.ensures (grows-seen w _ _ c.self.view_is (change-grows w c.args.object n (with_dict_ref n c.args.dict) c.index_mut.ensures.value refl (λ h. refl)))
