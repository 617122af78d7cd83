use Rattle.class_table.proofs.Below.{true, None, drop, is_class, numbers, classes_of, best_along}
use Rattle.std.proofs.Common.{◌≡◌, IfSome}
use Rattle.class_table.specs.Keys.{number_of}
use Rattle.class_table.proofs.inherit.best_along.Given as goal

abbrev pub invariant-loop-base : goal.invariant-loop-base
invariant-loop-base l = record {
  rest : best_along (classes_of l.classes) (number_of l.best) (numbers (drop l.base-index l.bases)) ≡ best_along (classes_of l.classes) None (numbers l.bases);
  there : IfSome l.best (λ b. is_class (classes_of l.classes) b.0 ≡ true);
}
