use Rattle.class_table.proofs.Below.{drop, is_same_name, with_values}
use Rattle.std.proofs.Common.{◌≡◌}
use Rattle.class_table.proofs.collect.put_all.Given as goal

abbrev pub invariant-loop-i : goal.invariant-loop-i
invariant-loop-i l = with_values is_same_name l.found (drop l.i l.attrs) ≡ with_values is_same_name l.fn.found l.attrs
