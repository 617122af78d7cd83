use Rattle.order_check.proofs.Below.{take, map, class_shown}
use Rattle.std.proofs.Common.{◌≡◌}
use Rattle.order_check.specs.ClassOrders.Shown.{shown}
use Rattle.order_check.proofs.class_orders.hierarchy_of.Given as goal

abbrev pub invariant-loop-place : goal.invariant-loop-place
invariant-loop-place l = map shown l.entries.items ≡ take l.place (map class_shown l.table)
