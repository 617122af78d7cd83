use Rattle.class_world.proofs.Lemmas.{sym, ap, ◌∙◌, PlainDict, dict_put, put_at, with_entries, the_view, dict_in, plain, IsNode, opened-one, grows-seen, dict-there, other-grows, other-read, put-hold}
use Rattle.class_world.proofs.DictChanges.{other-sound}
use Rattle.class_world.proofs.world.World.put_value.Goals as goal

pub invariant_of-self : goal.invariant_of-self
invariant_of-self c =
    let w = the_view c.self.inside in
    let n = c.index_mut.result.now in
    let d = dict-there w c.args.self.now c.args.dict n c.self.view_is c.self.invariant c.requires.dict c.requires.holding c.index_mut.ensures.value in
    other-sound w c.args.dict n c.put_value.new.node (dict_put (dict_in n.payload) c.args.place c.args.value) d.below c.index_mut.ensures.value d.home c.put_value.ensures (put-hold w (dict_in n.payload) c.args.place c.args.value d.holds (opened-one w c.args.self.now (IsNode c.args.value) c.self.view_is c.requires.value)) c.self.invariant

pub returns-clause-put : goal.returns-clause-put
returns-clause-put c = λ t.
    let w = the_view c.self.inside in
    let n = c.index_mut.result.now in
    let d = dict-there w c.args.self.now c.args.dict n c.self.view_is c.self.invariant c.requires.dict c.requires.holding c.index_mut.ensures.value in
    other-read w c.args.dict n c.put_value.new.node (dict_put (dict_in n.payload) c.args.place c.args.value) c.args.self.now c.self.view_is d.below c.index_mut.ensures.value c.put_value.ensures t
    ∙ ap (λ (d : PlainDict). with_entries (plain t c.args.self.now) c.args.dict (put_at d.items c.args.place c.args.value)) (sym d.same)

pub returns-clause-grows : goal.returns-clause-grows
returns-clause-grows c =
    let w = the_view c.self.inside in
    let n = c.index_mut.result.now in
    let d = dict-there w c.args.self.now c.args.dict n c.self.view_is c.self.invariant c.requires.dict c.requires.holding c.index_mut.ensures.value in
    grows-seen w _ _ c.self.view_is (other-grows w c.args.dict n c.put_value.new.node (dict_put (dict_in n.payload) c.args.place c.args.value) c.index_mut.ensures.value d.home c.put_value.ensures)
