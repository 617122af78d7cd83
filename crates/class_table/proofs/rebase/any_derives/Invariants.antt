use Rattle.class_table.proofs.Below.{drop, numbers, classes_of, any_derives}
use Rattle.std.proofs.Common.{◌≡◌}
use Rattle.class_table.proofs.rebase.any_derives.Given as goal

abbrev pub invariant-loop-base : goal.invariant-loop-base
invariant-loop-base l =
    any_derives (classes_of l.classes) (numbers (drop l.base-index l.bases)) l.class.0 ≡ any_derives (classes_of l.classes) (numbers l.bases) l.class.0
