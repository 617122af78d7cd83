use Rattle.class_table.proofs.Below.{map, take, all_built_ins, built_class}
use Rattle.std.proofs.Common.{◌≡◌}
use Rattle.class_table.proofs.table.ClassTable.bare.Given as goal

abbrev pub invariant-loop-row : goal.invariant-loop-row
invariant-loop-row l = l.table ≡ map built_class (take l.row-index all_built_ins)
