use Rattle.class_table.proofs.Below.{drop, are_empty, rows}
use Rattle.std.proofs.Common.{◌≡◌}
use Rattle.class_table.proofs.mro_merge.merge.are_empty.Given as goal

abbrev pub invariant-loop-list : goal.invariant-loop-list
invariant-loop-list l = are_empty (rows (drop l.list-index l.lists)) ≡ are_empty (rows l.lists)
