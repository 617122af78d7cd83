use Rattle.class_table.proofs.Below.{drop, list_any, is_dict, table_keys}
use Rattle.std.proofs.Common.{◌≡◌}
use Rattle.class_table.proofs.dict.any_is_dict.Given as goal

abbrev pub invariant-loop-name : goal.invariant-loop-name
invariant-loop-name l = list_any (is_dict table_keys) (drop l.name-index l.names) ≡ list_any (is_dict table_keys) l.names
