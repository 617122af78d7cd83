use Rattle.class_table.proofs.Below.{drop, names_of, slot_by}
use Rattle.std.proofs.Common.{◌≡◌}
use Rattle.class_table.proofs.probe.slot_by.Given as goal

abbrev pub invariant-loop-name : goal.invariant-loop-name
invariant-loop-name l = record {
  names : l.name-items ≡ names_of l.slot;
  left : slot_by l.values l.slot (drop l.name-index l.name-items) ≡ slot_by l.values l.slot (names_of l.slot);
}
