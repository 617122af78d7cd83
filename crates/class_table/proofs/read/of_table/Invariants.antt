use Rattle.class_table.proofs.Below.{drop, entry, read_along, natives_of, numbers, table_keys, classes_of, table_sort}
use Rattle.std.proofs.Common.{◌≡◌}
use Rattle.class_table.proofs.read.of_table.Given as goal

abbrev pub invariant-loop-class : goal.invariant-loop-class
invariant-loop-class l = read_along (entry table_keys natives_of (classes_of l.classes)) (table_sort l.mapping) 0 (numbers (drop l.class-index l.line)) l.slot ≡ read_along (entry table_keys natives_of (classes_of l.classes)) (table_sort l.mapping) 0 (numbers l.line) l.slot
