use Rattle.order_check.proofs.Below.{take, rows}
use Rattle.std.proofs.Common.{◌≡◌}
use Rattle.class_table.specs.MroMerge.Lists.{rows as class_rows}
use Rattle.order_check.proofs.least.all_references.Given as goal

abbrev pub invariant-loop-list : goal.invariant-loop-list
invariant-loop-list l = class_rows l.found.items ≡ rows (take l.list-index l.lists)
