use Rattle.proto_call.proofs.Lemmas.{ap, sym, ◌∙◌, entries_from, plain, entries-themselves, keys-can}
use Rattle.proto_call.proofs.eval_forms.class_form.dict_of.Goals as goal

pub entries_from-requires : goal.entries_from-requires
entries_from-requires c = rw c.deref.ensures.value (keys-can c.key_all.new.world c.in_ok-pairs.pairs.items c.in_ok-pairs.ensures.holds)

pub returns-clause-keyed : goal.returns-clause-keyed
returns-clause-keyed c = λ t r.
    let mid = c.key_all.new.world in
    let e = c.in_ok-dict.ensures in
    let pairs = c.in_ok-pairs.pairs.items in
    let items = e.entries t ∙ ap (entries_from (plain t mid)) c.deref.ensures.value ∙ entries-themselves t mid pairs c.in_ok-pairs.ensures.holds in
    c.in_ok-pairs.ensures.keyed t (e.reads t r) ∙ (λ i. (sym (e.same t) i, sym items i))
