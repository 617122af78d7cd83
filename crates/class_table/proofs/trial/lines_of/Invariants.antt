use Rattle.class_table.proofs.Below.{Some, map, take, lin, with_bases, rows, numbers, classes_of}
use Rattle.std.proofs.Common.{◌≡◌}
use Rattle.class_table.proofs.trial.lines_of.Given as goal

abbrev pub invariant-loop-base : goal.invariant-loop-base
invariant-loop-base l =
    map Some (rows l.lines.items) ≡ map (lin (with_bases (classes_of l.change.classes.now) l.change.class.0 (numbers l.change.bases.now))) (numbers (take l.base-index l.bases))
