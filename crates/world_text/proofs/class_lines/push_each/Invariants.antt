use Rattle.world_text.proofs.Below.{take, flat_map, numbers_of, table_keys, heap_text}
use Rattle.std.proofs.Common.{◌≡◌, ◌++◌}
use Rattle.world_text.proofs.class_lines.push_each.Given as goal

abbrev pub invariant-loop-place : goal.invariant-loop-place
invariant-loop-place l = l.out.items ≡ l.initial.out.items ++ flat_map (heap_text table_keys l.classes) (take l.place (numbers_of l.classes))
