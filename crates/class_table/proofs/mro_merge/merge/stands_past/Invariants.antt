use Rattle.class_table.proofs.Below.{drop, stands_past, rows}
use Rattle.std.proofs.Common.{◌≡◌}
use Rattle.class_table.proofs.mro_merge.merge.stands_past.Given as goal

abbrev pub invariant-loop-list : goal.invariant-loop-list
invariant-loop-list l = stands_past l.class.0 (rows (drop l.list-index l.lists)) ≡ stands_past l.class.0 (rows l.lists)
