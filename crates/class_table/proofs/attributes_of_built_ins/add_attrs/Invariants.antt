use Rattle.class_table.proofs.Below.{take, fold, with_own}
use Rattle.std.proofs.Common.{◌≡◌}
use Rattle.class_table.proofs.attributes_of_built_ins.add_attrs.Given as goal

abbrev pub invariant-loop-attr : goal.invariant-loop-attr
invariant-loop-attr l = (l.table, l.next) ≡ fold (with_own l.fn.class) (l.initial.table, l.fn.first) (take l.attr-index l.attr-items)
