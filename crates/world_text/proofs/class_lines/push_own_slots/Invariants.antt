use Rattle.world_text.proofs.Below.{map, take, flat_map, slot_word, table_keys, own_words}
use Rattle.std.proofs.Common.{◌≡◌, ◌++◌}
use Rattle.world_text.proofs.class_lines.push_own_slots.Given as goal

abbrev pub invariant-loop-row : goal.invariant-loop-row
invariant-loop-row l =
    l.out.items ≡ l.initial.out.items ++ flat_map slot_word (own_words table_keys l.classes l.class.0 (map (λ r. r.0) (take l.row-index l.rows)))
