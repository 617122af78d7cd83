use Rattle.class_table.proofs.Below.{drop, first_free, rows}
use Rattle.std.proofs.Common.{◌≡◌}
use Rattle.class_table.proofs.mro_merge.merge.first_free.Given as goal

abbrev pub invariant-loop-place : goal.invariant-loop-place
invariant-loop-place l = first_free (rows l.lists) (rows (drop l.place l.lists)) ≡ first_free (rows l.lists) (rows l.lists)
