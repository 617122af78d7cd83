use Rattle.native_containers.proofs.Lemmas.{sym, ap, ◌∙◌, with_entries, with_entry, plain, ends_none, entries_at, err_from_is_err_and}
use Rattle.native_containers.proofs.Changed.{long, short}
use Rattle.native_containers.proofs.dict.put.Goals as goal

pub returns-then-not-has_room-clause-ends : goal.returns-then-not-has_room-clause-ends
returns-then-not-has_room-clause-ends c = rw c.raise.ensures (λ t q.
    let u = plain t c.args.world.now in
    let es = with_entry u (entries_at u c.args.dict) (c.args.key, c.args.value) in
    (q, c.in_default.ensures.taken t _ ∙ long u es (ends_none (with_entries u c.args.dict es)) (c.has_room.ensures t c.args.value ∙ c.if-not-has_room.true)))

pub returns-in_err-ends_none-clause-ends : goal.returns-in_err-ends_none-clause-ends
returns-in_err-ends_none-clause-ends c =
    let set = c.in_ok-set_value_under.ensures in
    let p = err_from_is_err_and c.from_residual-in_err-ends_none.result c.from_residual-in_err-ends_none.ensures.1 in
    rw (p.1, p.2) (λ t q.
    let u = plain t c.args.world.now in
    let es = with_entry u (entries_at u c.args.dict) (c.args.key, c.args.value) in
    (set.reads t q, c.in_default.ensures.taken t _ ∙ short u es (ends_none (with_entries u c.args.dict es)) (c.has_room.ensures t c.args.value ∙ c.if-not-has_room.false) ∙ ap ends_none (sym (set.set t)) ∙ (c.in_err-ends_none.ensures.ends t q).1))

pub returns-clause-ends : goal.returns-clause-ends
returns-clause-ends c = λ t q.
    let u = plain t c.args.world.now in
    let es = with_entry u (entries_at u c.args.dict) (c.args.key, c.args.value) in
    let set = c.in_ok-set_value_under.ensures in
    (set.reads t q, c.in_default.ensures.taken t _ ∙ short u es (ends_none (with_entries u c.args.dict es)) (c.has_room.ensures t c.args.value ∙ c.if-not-has_room.false) ∙ ap ends_none (sym (set.set t)) ∙ (c.in_ok-ends_none.ensures.ends t q).1)
