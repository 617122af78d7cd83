use Rattle.class_table.proofs.Below.{length, option_map, rows, members, merged}
use Rattle.std.proofs.Common.{◌≡◌, ◌++◌}
use Rattle.class_table.specs.MroMerge.Lists.{numbers}
use Rattle.class_table.proofs.mro_merge.merge.merge.Given as goal

abbrev pub invariant-loop-lists : goal.invariant-loop-lists
invariant-loop-lists l = merged (rows l.fn.lists.items) ≡ option_map (λ xs. numbers l.line.items ++ xs) (merged (rows l.lists.items))

abbrev pub decreases-loop-lists : goal.decreases-loop-lists
decreases-loop-lists l = length (members (rows l.lists.items))
