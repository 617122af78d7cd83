use Rattle.vm_calls.proofs.Lemmas.{◌∙◌, true, ap, sym, arith, length, nat_le, most_items, items-made}
use Rattle.std.proofs.Common.{◌≡◌}
use Rattle.vm_calls.proofs.made.made_of_items.Goals as goal

pub returns-in_ok-node-in-Done : goal.returns-in_ok-node-in-Done
returns-in_ok-node-in-Done c =
    let items = c.in-Done.items in
    let size : c.len.result ≡ length items.items = let h = c.len.ensures in omega (arith, h) in
    let few : nat_le (length items.items) most_items ≡ true = ap (λ n. nat_le n most_items) (sym size) ∙ sym c.is_within_limit.ensures ∙ c.if-not-is_within_limit.false in
    items-made _ _ _ _ _ _ _ items c.in_ok-node-in-Done.node _ c.in_ok-items.ensures c.in-Done.is few c.in_ok-node-in-Done.ensures
