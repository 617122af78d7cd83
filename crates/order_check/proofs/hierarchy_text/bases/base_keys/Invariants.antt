use Rattle.order_check.proofs.Below.{drop, items_view, onto, texts, base_keys}
use Rattle.std.proofs.Common.{◌≡◌}
use Rattle.order_check.proofs.hierarchy_text.bases.base_keys.Given as goal

abbrev pub invariant-loop-item : goal.invariant-loop-item
invariant-loop-item l =
    base_keys (texts l.names.keys) (items_view l.items) ≡ onto l.keys.items (base_keys (texts l.names.keys) (items_view (drop l.item-index l.items)))
