use Rattle.class_table.proofs.Below.{drop, stands_past, rows}
use Rattle.std.proofs.Common.{◌≡◌}
use Rattle.class_table.proofs.mro_merge.merge.blocked_at.Given as goal

abbrev pub invariant-loop-place : goal.invariant-loop-place
invariant-loop-place l = stands_past l.class.0 (rows (drop l.place l.lists)) ≡ stands_past l.class.0 (rows l.lists)
