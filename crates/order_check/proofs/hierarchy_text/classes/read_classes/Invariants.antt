use Rattle.order_check.proofs.Below.{[], drop, map, items_view, onto, classes_after, plain_class, with_first, texts}
use Rattle.std.proofs.Common.{◌≡◌, ◌∷◌, codes, option_map}
use Rattle.order_check.proofs.hierarchy_text.classes.read_classes.Given as goal

abbrev pub invariant-loop-item : goal.invariant-loop-item
invariant-loop-item l =
    option_map with_first (classes_after (codes "object" ∷ []) (items_view l.items)) ≡ onto (map plain_class l.entries.items) (classes_after (texts l.names.keys) (items_view (drop l.item-index l.items)))
