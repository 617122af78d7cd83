use Rattle.class_table.proofs.Below.{map, take}
use Rattle.std.proofs.Common.{◌≡◌}
use Rattle.class_table.proofs.start.table_of.Given as goal

abbrev pub invariant-loop-row : goal.invariant-loop-row
invariant-loop-row l = l.names ≡ map (λ r. r.1.now) (take l.row-index l.rows)
