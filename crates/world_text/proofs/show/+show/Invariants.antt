use Rattle.world_text.proofs.Below.{take, map, string_bytes, text_within, entry_text, Reading, plain}
use Rattle.std.proofs.Common.{◌≡◌, ◌+◌, ◌*◌}
use Rattle.world_text.proofs.show.+show.Given as goal

-- items are shown one less deep, and each function comes before those that it calls
abbrev pub decreases-text_within : goal.decreases-text_within
decreases-text_within l = 4 * l.depth + 3

abbrev pub decreases-show_payload : goal.decreases-show_payload
decreases-show_payload l = 4 * l.depth + 2

abbrev pub decreases-item_texts : goal.decreases-item_texts
decreases-item_texts l = 4 * l.depth + 1

abbrev pub decreases-entry_texts : goal.decreases-entry_texts
decreases-entry_texts l = 4 * l.depth + 1

abbrev pub decreases-show_entry : goal.decreases-show_entry
decreases-show_entry l = 4 * l.depth + 4

abbrev pub invariant-item_texts-loop-item : goal.invariant-item_texts-loop-item
invariant-item_texts-loop-item l =
    (t : Reading) → map string_bytes l.texts.items ≡ map (text_within l.less (plain t l.world)) (take l.item-index l.item-items)

abbrev pub invariant-entry_texts-loop-entry : goal.invariant-entry_texts-loop-entry
invariant-entry_texts-loop-entry l =
    (t : Reading) → map string_bytes l.texts.items ≡ map (entry_text (text_within l.less (plain t l.world))) (take l.entry-index l.entry-items)
