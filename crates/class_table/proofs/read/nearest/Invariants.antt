use Rattle.class_table.proofs.Below.{drop, first_along, entry, natives_of, numbers, table_keys, classes_of}
use Rattle.std.proofs.Common.{◌≡◌}
use Rattle.class_table.proofs.read.nearest.Given as goal

abbrev pub invariant-loop-class : goal.invariant-loop-class
invariant-loop-class l = first_along (λ d. entry table_keys natives_of (classes_of l.classes) d l.slot) (numbers (drop l.class-index l.line)) ≡ first_along (λ d. entry table_keys natives_of (classes_of l.classes) d l.slot) (numbers l.line)
