use Rattle.class_world.proofs.Below.{drop, nat_lt, built_ins, first_with, numbers}
use Rattle.std.proofs.Common.{◌≡◌}
use Rattle.class_world.proofs.objects.first_built_in.Given as goal

abbrev pub invariant-loop-class : goal.invariant-loop-class
invariant-loop-class l = first_with (λ d. nat_lt d built_ins) (numbers (drop l.class-index l.line)) ≡ first_with (λ d. nat_lt d built_ins) (numbers l.line)
