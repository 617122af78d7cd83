use Rattle.native_containers.proofs.Lemmas.{length, sym, ◌∙◌, length-set, slice_set, none, value, plain, list_changed, items_at, placed, place_at, items-changed, leads-to}
use Rattle.native_containers.proofs.native_items.set.put_in_place.Goals as goal

pub returns-else-not-is_within_limit-clause-ends : goal.returns-else-not-is_within_limit-clause-ends
returns-else-not-is_within_limit-clause-ends c =
    let a = c.args in
    let w = a.world.now in
    let rs = c.items-count.result.now in
    let i = c.in-Some.place in
    items-changed (λ t u. placed u (place_at u (length (items_at u a.list)) a.index) (λ i. list_changed u a.list (slice_set (items_at u a.list) i a.value))) w a.list rs c.items-count.ensures.same (λ rs. slice_set rs i a.value) (value none)
    (λ t. leads-to (plain t w) a.list a.index rs (c.items-count.ensures.same t) (λ rs i. slice_set rs i a.value) i (c.in-Some.ensures.reads t))
    (length rs) (length-set rs i a.value) c.set_item.new.self c.ends_none.result (sym c.is_within_limit.ensures ∙ c.if-not-is_within_limit.false) c.set_item.ensures.set c.set_item.ensures.reads c.ends_none.ensures.ends
