use Rattle.class_table.proofs.Below.{drop, entry, natives_of, table_keys, classes_of, any_filled}
use Rattle.std.proofs.Common.{◌≡◌}
use Rattle.class_table.proofs.read.fills_any.Given as goal

abbrev pub invariant-loop-slot : goal.invariant-loop-slot
invariant-loop-slot l = any_filled (entry table_keys natives_of (classes_of l.classes) l.class.0) (drop l.slot-index l.slots) ≡ any_filled (entry table_keys natives_of (classes_of l.classes) l.class.0) l.slots
