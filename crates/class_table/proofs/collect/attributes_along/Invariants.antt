use Rattle.std.proofs.Common.{◌≡◌}
use Rattle.class_table.proofs.Below.{is_same_name, attributes_along, classes_of, numbers}
use Rattle.class_table.proofs.Collected.{along_from}
use Rattle.class_table.proofs.collect.attributes_along.Given as goal

abbrev pub invariant-loop-class : goal.invariant-loop-class
invariant-loop-class l = along_from is_same_name (classes_of l.classes) l.found (numbers l.class-iterator.iter.rest.now) ≡ attributes_along is_same_name (classes_of l.classes) (numbers l.line)
