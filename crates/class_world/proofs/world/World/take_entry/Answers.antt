use Rattle.class_world.proofs.Lemmas.{sym, ap, ◌∙◌, remove, PlainDict, dict_removed, with_entries, the_view, dict_in, plain, grows-seen, dict-there, other-grows, other-read, removed-hold}
use Rattle.class_world.proofs.DictChanges.{other-sound}
use Rattle.class_world.proofs.world.World.take_entry.Goals as goal

pub invariant_of-self : goal.invariant_of-self
invariant_of-self c =
    let w = the_view c.self.inside in
    let n = c.index_mut.result.now in
    let d = dict-there w c.args.self.now c.args.dict n c.self.view_is c.self.invariant c.requires.dict c.requires.holding c.index_mut.ensures.value in
    other-sound w c.args.dict n c.take_entry.new.node (dict_removed (dict_in n.payload) c.args.place) d.below c.index_mut.ensures.value d.home c.take_entry.ensures (removed-hold w (dict_in n.payload) c.args.place d.holds) c.self.invariant

pub returns-clause-taken : goal.returns-clause-taken
returns-clause-taken c = λ t.
    let w = the_view c.self.inside in
    let n = c.index_mut.result.now in
    let d = dict-there w c.args.self.now c.args.dict n c.self.view_is c.self.invariant c.requires.dict c.requires.holding c.index_mut.ensures.value in
    other-read w c.args.dict n c.take_entry.new.node (dict_removed (dict_in n.payload) c.args.place) c.args.self.now c.self.view_is d.below c.index_mut.ensures.value c.take_entry.ensures t
    ∙ ap (λ (d : PlainDict). with_entries (plain t c.args.self.now) c.args.dict (remove d.items c.args.place)) (sym d.same)

pub returns-clause-grows : goal.returns-clause-grows
returns-clause-grows c =
    let w = the_view c.self.inside in
    let n = c.index_mut.result.now in
    let d = dict-there w c.args.self.now c.args.dict n c.self.view_is c.self.invariant c.requires.dict c.requires.holding c.index_mut.ensures.value in
    grows-seen w _ _ c.self.view_is (other-grows w c.args.dict n c.take_entry.new.node (dict_removed (dict_in n.payload) c.args.place) c.index_mut.ensures.value d.home c.take_entry.ensures)
