use Rattle.class_table.proofs.Below.{[], take, drop, repeat_past}
use Rattle.std.proofs.Common.{◌≡◌}
use Rattle.class_table.specs.MroMerge.Lists.{numbers}
use Rattle.class_table.proofs.mro_merge.laws.first_repeat.Given as goal

abbrev pub invariant-loop-i : goal.invariant-loop-i
invariant-loop-i l = repeat_past (numbers (take l.i l.bases)) (numbers (drop l.i l.bases)) ≡ repeat_past [] (numbers l.bases)
