use Rattle.class_table.proofs.Below.{drop, map, is_same_name, names_of, is_one_of, is_name_of, table_keys}
use Rattle.std.proofs.Common.{◌≡◌}
use Rattle.class_table.proofs.refresh.is_name_of.Given as goal

abbrev pub invariant-loop-other : goal.invariant-loop-other
invariant-loop-other l = record {
  names : l.other-items ≡ names_of l.fn.slot;
  left : is_one_of is_same_name (map table_keys.special (drop l.other-index l.other-items)) l.name ≡ is_name_of table_keys l.fn.slot l.name;
}
