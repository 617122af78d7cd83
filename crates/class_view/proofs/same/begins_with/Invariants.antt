use Rattle.class_view.proofs.Below.{map, take, change_of}
use Rattle.std.proofs.Common.{◌≡◌}
use Rattle.class_view.proofs.same.begins_with.Given as goal

abbrev pub invariant-loop-i : goal.invariant-loop-i
invariant-loop-i l = take l.i (map change_of l.list) ≡ take l.i (map change_of l.part)
