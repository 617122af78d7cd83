use Rattle.class_table.proofs.Below.{take, numbers}
use Rattle.class_table.specs.Descendants.{AreAdded}
use Rattle.class_table.proofs.descendants.add_places.Given as goal

abbrev pub invariant-loop-class : goal.invariant-loop-class
invariant-loop-class l = AreAdded l.classes (numbers (take l.class-index l.some)) l.fn.found l.found
