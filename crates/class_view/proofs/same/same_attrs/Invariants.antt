use Rattle.class_view.proofs.Below.{take}
use Rattle.std.proofs.Common.{◌≡◌}
use Rattle.class_view.proofs.same.same_attrs.Given as goal

abbrev pub invariant-loop-i : goal.invariant-loop-i
invariant-loop-i l = take l.i l.a ≡ take l.i l.b
