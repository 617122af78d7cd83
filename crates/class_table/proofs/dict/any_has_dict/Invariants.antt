use Rattle.class_table.proofs.Below.{drop, any_has_dict, numbers, classes_of}
use Rattle.std.proofs.Common.{◌≡◌}
use Rattle.class_table.proofs.dict.any_has_dict.Given as goal

abbrev pub invariant-loop-base : goal.invariant-loop-base
invariant-loop-base l =
    any_has_dict (classes_of l.classes) (numbers (drop l.base-index l.bases)) ≡ any_has_dict (classes_of l.classes) (numbers l.bases)
