use Rattle.class_table.proofs.Below.{AreEmpty}
use Rattle.class_table.proofs.cache.blank_rows.Given as goal

abbrev pub invariant-loop-row : goal.invariant-loop-row
invariant-loop-row l = AreEmpty l.rows.items
