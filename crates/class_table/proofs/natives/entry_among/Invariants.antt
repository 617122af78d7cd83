use Rattle.class_table.proofs.Below.{drop, entry_among}
use Rattle.std.proofs.Common.{◌≡◌}
use Rattle.class_table.proofs.natives.entry_among.Given as goal

abbrev pub invariant-loop-attr : goal.invariant-loop-attr
invariant-loop-attr l = entry_among l.class l.slot (drop l.attr-index l.attrs) ≡ entry_among l.class l.slot l.attrs
