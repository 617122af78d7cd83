use Rattle.class_table.proofs.Below.{map, take, drop, without, rows}
use Rattle.std.proofs.Common.{◌≡◌, ◌++◌}
use Rattle.class_table.proofs.mro_merge.merge.strike.Given as goal

abbrev pub invariant-loop-i : goal.invariant-loop-i
invariant-loop-i l = rows l.lists.items ≡ map (without l.class.0) (take l.i (rows l.fn.lists.items)) ++ drop l.i (rows l.fn.lists.items)
