use Rattle.class_table.proofs.Below.{Some, map, take, lin, rows, numbers, classes_of}
use Rattle.std.proofs.Common.{◌≡◌}
use Rattle.class_table.proofs.inherit.lines.Given as goal

abbrev pub invariant-loop-base : goal.invariant-loop-base
invariant-loop-base l = map Some (rows l.lines.items) ≡ map (lin (classes_of l.classes)) (numbers (take l.base-index l.bases))
