use Rattle.class_table.proofs.Cached.{EmptyTo}
use Rattle.class_table.proofs.cache.empty_rows.Given as goal

abbrev pub invariant-loop-place : goal.invariant-loop-place
invariant-loop-place l = EmptyTo l.place l.rows
