use Rattle.class_table.proofs.Below.{drop, along, is_name_of, wrapped, numbers, table_keys, classes_of}
use Rattle.std.proofs.Common.{◌≡◌}
use Rattle.class_table.proofs.entries.wrapper_along.Given as goal

abbrev pub invariant-loop-place : goal.invariant-loop-place
invariant-loop-place l = wrapped l.slot (along (is_name_of table_keys l.slot) (classes_of l.classes) (numbers (drop l.place l.line))) ≡ wrapped l.slot (along (is_name_of table_keys l.slot) (classes_of l.classes) (numbers l.line))
