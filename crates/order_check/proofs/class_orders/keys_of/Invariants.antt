use Rattle.order_check.proofs.Below.{take}
use Rattle.std.proofs.Common.{◌≡◌}
use Rattle.class_table.specs.Keys.{numbers}
use Rattle.order_check.proofs.class_orders.keys_of.Given as goal

abbrev pub invariant-loop-class : goal.invariant-loop-class
invariant-loop-class l = l.keys.items ≡ numbers (take l.class-index l.classes)
