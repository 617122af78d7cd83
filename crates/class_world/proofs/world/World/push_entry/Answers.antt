use Rattle.class_world.proofs.Lemmas.{sym, ap, ◌∙◌, [], map, subst, on_ok_weaker, PlainDict, dict_pushed, with_entries, the_view, dict_in, plain, Holds, IsNode, KeysDiffer, KeysRead, Sound, Grows, opened-one, grows-seen, dict-there, changed, either-other, pushed-hold, other-grows, other-read, stored-absent}
use Rattle.std.proofs.Common.{◌∷◌, ◌++◌}
use Rattle.class_world.proofs.DictChanges.{other-sound}
use Rattle.class_world.proofs.world.World.push_entry.Goals as goal

pub index_mut-requires : goal.index_mut-requires
unfolding Holds
index_mut-requires c = rw c.self.inside.nodes.ok.0 (opened-one (the_view c.self.inside) c.args.self.now (IsNode c.args.dict) c.self.view_is c.requires.dict)

pub push_entry-requires-clause-home : goal.push_entry-requires-clause-home
push_entry-requires-clause-home c =
    (dict-there (the_view c.self.inside) c.args.self.now c.args.dict c.index_mut.result.now c.self.view_is c.self.invariant c.requires.dict c.requires.holding c.index_mut.ensures.value).home

pub push_entry-requires-clause-absent : goal.push_entry-requires-clause-absent
push_entry-requires-clause-absent c =
    let w = the_view c.self.inside in
    let n = c.index_mut.result.now in
    let v = c.self.view_is in
    let d = dict-there w c.args.self.now c.args.dict n v c.self.invariant c.requires.dict c.requires.holding c.index_mut.ensures.value in
    let old = dict_in n.payload in
    let read = opened-one w c.args.self.now (KeysRead (c.args.stored ∷ []) (c.args.key ∷ [])) v c.requires.read in
    let differ = opened-one w c.args.self.now (KeysDiffer (map (λ e. e.0) (old.items ++ (c.args.key, c.args.value) ∷ []))) v (subst (λ (d : PlainDict). Holds c.args.self.now (KeysDiffer (map (λ e. e.0) (d.items ++ (c.args.key, c.args.value) ∷ [])))) d.same c.requires.differs) in
    stored-absent w old c.args.stored c.args.key c.args.value d.holds read differ

pub invariant_of-self : goal.invariant_of-self
invariant_of-self c =
    let w = the_view c.self.inside in
    let n = c.index_mut.result.now in
    let e = c.index_mut.ensures.value in
    let v = c.self.view_is in
    let d = dict-there w c.args.self.now c.args.dict n v c.self.invariant c.requires.dict c.requires.holding e in
    let old = dict_in n.payload in
    let more = dict_pushed old c.args.stored c.args.key c.args.value in
    let read = opened-one w c.args.self.now (KeysRead (c.args.stored ∷ []) (c.args.key ∷ [])) v c.requires.read in
    let differ = opened-one w c.args.self.now (KeysDiffer (map (λ e. e.0) more.items)) v (subst (λ (d : PlainDict). Holds c.args.self.now (KeysDiffer (map (λ e. e.0) (d.items ++ (c.args.key, c.args.value) ∷ [])))) d.same c.requires.differs) in
    let key = opened-one w c.args.self.now (IsNode c.args.key) v c.requires.key in
    let value = opened-one w c.args.self.now (IsNode c.args.value) v c.requires.value in
    let all = pushed-hold w old c.args.stored c.args.key c.args.value d.holds read key value differ in
    either-other w c.args.dict n c.push_entry.new.node (Sound (changed w c.args.dict n c.push_entry.new.node)) c.push_entry.result old more c.push_entry.ensures.ok c.push_entry.ensures.err d.holds all
    (λ xs o h. other-sound w c.args.dict n c.push_entry.new.node xs d.below e d.home o h c.self.invariant)

pub returns-clause-pushed : goal.returns-clause-pushed
returns-clause-pushed c =
    let w = the_view c.self.inside in
    let n = c.index_mut.result.now in
    let v = c.self.view_is in
    let d = dict-there w c.args.self.now c.args.dict n v c.self.invariant c.requires.dict c.requires.holding c.index_mut.ensures.value in
    let more = dict_pushed (dict_in n.payload) c.args.stored c.args.key c.args.value in
    on_ok_weaker c.push_entry.result (λ o t. other-read w c.args.dict n c.push_entry.new.node more c.args.self.now v d.below c.index_mut.ensures.value o t
    ∙ ap (λ (d : PlainDict). with_entries (plain t c.args.self.now) c.args.dict (d.items ++ (c.args.key, c.args.value) ∷ [])) (sym d.same)) c.push_entry.ensures.ok

pub returns-clause-grows : goal.returns-clause-grows
returns-clause-grows c =
    let w = the_view c.self.inside in
    let n = c.index_mut.result.now in
    let e = c.index_mut.ensures.value in
    let v = c.self.view_is in
    let d = dict-there w c.args.self.now c.args.dict n v c.self.invariant c.requires.dict c.requires.holding e in
    let old = dict_in n.payload in
    let more = dict_pushed old c.args.stored c.args.key c.args.value in
    let read = opened-one w c.args.self.now (KeysRead (c.args.stored ∷ []) (c.args.key ∷ [])) v c.requires.read in
    let differ = opened-one w c.args.self.now (KeysDiffer (map (λ e. e.0) more.items)) v (subst (λ (d : PlainDict). Holds c.args.self.now (KeysDiffer (map (λ e. e.0) (d.items ++ (c.args.key, c.args.value) ∷ [])))) d.same c.requires.differs) in
    let key = opened-one w c.args.self.now (IsNode c.args.key) v c.requires.key in
    let value = opened-one w c.args.self.now (IsNode c.args.value) v c.requires.value in
    let all = pushed-hold w old c.args.stored c.args.key c.args.value d.holds read key value differ in
    grows-seen w _ _ v
    (either-other w c.args.dict n c.push_entry.new.node (Grows w (changed w c.args.dict n c.push_entry.new.node)) c.push_entry.result old more c.push_entry.ensures.ok c.push_entry.ensures.err d.holds all
    (λ xs o h. other-grows w c.args.dict n c.push_entry.new.node xs e d.home o))
