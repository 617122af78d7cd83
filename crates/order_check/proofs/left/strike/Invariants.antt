use Rattle.order_check.proofs.Below.{map, take, drop, without, rows}
use Rattle.std.proofs.Common.{◌≡◌, ◌++◌}
use Rattle.order_check.proofs.left.strike.Given as goal

abbrev pub invariant-loop-i : goal.invariant-loop-i
invariant-loop-i l = rows l.lists.items ≡ map (without l.key) (take l.i (rows l.fn.lists.items)) ++ drop l.i (rows l.fn.lists.items)
