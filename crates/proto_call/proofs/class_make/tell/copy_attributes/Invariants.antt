use Rattle.proto_call.proofs.Below.{take}
use Rattle.std.proofs.Common.{◌≡◌}
use Rattle.proto_call.proofs.class_make.tell.copy_attributes.Given as goal

abbrev pub invariant-loop-i : goal.invariant-loop-i
invariant-loop-i l = l.values.items ≡ take l.i l.attrs
