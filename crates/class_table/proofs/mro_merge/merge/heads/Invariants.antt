use Rattle.class_table.proofs.Below.{drop, unique, rows, heads}
use Rattle.std.proofs.Common.{◌≡◌}
use Rattle.class_table.proofs.MroMerge.Heads.{collected}
use Rattle.class_table.proofs.mro_merge.merge.heads.Given as goal

abbrev pub invariant-loop-list : goal.invariant-loop-list
invariant-loop-list l = collected l.found.items (drop l.list-index l.lists) ≡ unique (heads (rows l.lists))
