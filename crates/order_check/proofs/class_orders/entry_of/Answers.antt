use Rattle.order_check.proofs.Lemmas.{Some, string_bytes, sym, ap, ◌∙◌, numbers, shown-at}
use Rattle.std.proofs.Common.{◌≡◌}
use Rattle.order_check.proofs.class_orders.entry_of.Goals as goal

pub returns : goal.returns
returns c =
    let n = c.args.class.0 in
    let s = c.in_ok-from_str.field-0 in
    let name : string_bytes s ≡ c.slot_name.result.now = c.in_ok-from_str.ensures.ok in
    shown-at c.args.table.now n c.slot_name.result.now (numbers c.bases.result.now) c.slot_name.ensures c.bases.ensures
    ∙ ap (λ x. Some (n, x, numbers c.bases.result.now)) (sym name)
    ∙ ap (λ x. Some (n, string_bytes s, x)) (sym c.in_ok-keys_of.ensures)
