use Rattle.class_table.proofs.Below.{drop, map, value_of, is_same_name, names_of, is_one_of, is_name_of, wrapped, table_keys}
use Rattle.std.proofs.Common.{◌≡◌}
use Rattle.class_table.proofs.entries.own_wrapper.Given as goal

abbrev pub invariant-loop-name : goal.invariant-loop-name
invariant-loop-name l = record {
  names : l.name-items ≡ names_of l.slot;
  left : wrapped l.slot (value_of (is_one_of is_same_name (map table_keys.special (drop l.name-index l.name-items))) l.attrs) ≡ wrapped l.slot (value_of (is_name_of table_keys l.slot) l.attrs);
}
