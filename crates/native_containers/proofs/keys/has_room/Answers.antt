use Rattle.native_containers.proofs.Lemmas.{suc, length, sym, ap, ◌∙◌, nat_le, Entries, most_items, plain, entries_at, length-new, length-put}
use Rattle.native_containers.proofs.keys.has_room.Goals as goal

pub returns-in-None : goal.returns-in-None
returns-in-None c = λ t v.
    let u = plain t c.args.world.now in
    ap (λ n. nat_le n most_items) (length-new u (entries_at u c.args.dict) c.args.key v (c.value_under.ensures.value t ∙ c.in-None.is))
    ∙ ap (λ (es : Entries). nat_le (suc (length es)) most_items) (c.entries-count.ensures.same t)

pub returns-in-Some : goal.returns-in-Some
returns-in-Some c = λ t v.
    let u = plain t c.args.world.now in
    ap (λ n. nat_le n most_items) (length-put u (entries_at u c.args.dict) c.args.key v _ (c.value_under.ensures.value t ∙ c.in-Some.is))
    ∙ ap (λ (es : Entries). nat_le (length es) most_items) (c.entries-count.ensures.same t)
    ∙ sym c.is_within_limit.ensures
