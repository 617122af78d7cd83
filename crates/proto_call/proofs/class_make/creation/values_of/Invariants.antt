use Rattle.proto_call.proofs.Below.{map, take}
use Rattle.std.proofs.Common.{◌≡◌}
use Rattle.proto_call.proofs.class_make.creation.values_of.Given as goal

abbrev pub invariant-loop-i : goal.invariant-loop-i
invariant-loop-i l = l.values.items ≡ map (λ a. a.1) (take l.i l.attrs)
