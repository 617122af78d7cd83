use Rattle.class_table.proofs.Below.{drop, first_along, given_entry, natives_of, numbers, table_keys, classes_of}
use Rattle.std.proofs.Common.{◌≡◌}
use Rattle.class_table.proofs.settle.kept_along.Given as goal

abbrev pub invariant-loop-place : goal.invariant-loop-place
invariant-loop-place l = first_along (given_entry table_keys natives_of (classes_of l.classes) l.slot) (numbers (drop l.place l.line)) ≡ first_along (given_entry table_keys natives_of (classes_of l.classes) l.slot) (numbers l.line)
