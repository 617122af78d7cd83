use Rattle.std.proofs.Common.{◌≤◌}
use Rattle.class_table.proofs.Below.{NoneNamed}
use Rattle.class_table.proofs.refresh.past_named.Given as goal

abbrev pub invariant-loop-place : goal.invariant-loop-place
invariant-loop-place l = record {
  behind : NoneNamed l.fn.name l.past l.place;
  most : l.past ≤ l.place;
}
