use Rattle.class_table.proofs.Below.{drop, has}
use Rattle.std.proofs.Common.{◌≡◌}
use Rattle.class_table.specs.MroMerge.Lists.{numbers}
use Rattle.class_table.proofs.mro_merge.merge.has.Given as goal

abbrev pub invariant-loop-other : goal.invariant-loop-other
invariant-loop-other l = has (numbers (drop l.other-index l.list)) l.class.0 ≡ has (numbers l.list) l.class.0
