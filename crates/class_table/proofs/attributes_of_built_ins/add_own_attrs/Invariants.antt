use Rattle.class_table.proofs.Below.{take, fold, fixed_node_count, with_all_own}
use Rattle.std.proofs.Common.{◌≡◌}
use Rattle.class_table.proofs.attributes_of_built_ins.add_own_attrs.Given as goal

abbrev pub invariant-loop-row : goal.invariant-loop-row
invariant-loop-row l = (l.table, l.next) ≡ fold (λ s r. with_all_own s r.0) (l.initial.table, fixed_node_count) (take l.row-index l.row-items)
