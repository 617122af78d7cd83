use Rattle.class_table.proofs.Below.{drop, breaks_precedence, rows, heads}
use Rattle.std.proofs.Common.{◌≡◌}
use Rattle.class_table.proofs.mro_merge.laws.breaks_precedence.Given as goal

abbrev pub invariant-loop-i : goal.invariant-loop-i
invariant-loop-i l =
    breaks_precedence (heads (rows (drop l.i l.lists))) (rows (drop l.i l.lists)) ≡ breaks_precedence (heads (rows l.lists)) (rows l.lists)
