use Rattle.script_text.proofs.Below.{take, map, flat_map, slot_word}
use Rattle.std.proofs.Common.{◌≡◌, ◌++◌}
use Rattle.script_text.proofs.reply_text.class.push_class_lines.Given as goal

abbrev pub invariant-loop-slot : goal.invariant-loop-slot
invariant-loop-slot l =
    l.out.items ≡ l.initial.out.items ++ flat_map slot_word (map (λ s. s.now) (take l.slot-index l.slots))
