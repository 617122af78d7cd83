use Rattle.class_table.proofs.Below.{drop, is_same_name, along, numbers, classes_of}
use Rattle.std.proofs.Common.{◌≡◌}
use Rattle.class_table.proofs.read.value_along.Given as goal

abbrev pub invariant-loop-place : goal.invariant-loop-place
invariant-loop-place l = along (λ k. is_same_name k l.name) (classes_of l.classes) (numbers (drop l.place l.line)) ≡ along (λ k. is_same_name k l.name) (classes_of l.classes) (numbers l.line)
