use Rattle.class_table.proofs.Below.{NoneNamed}
use Rattle.class_table.proofs.refresh.first_named.Given as goal

abbrev pub invariant-loop-place : goal.invariant-loop-place
invariant-loop-place l = record {
  before : NoneNamed l.fn.name 0 l.place;
}
