use Rattle.class_table.proofs.Below.{AreLinesTo}
use Rattle.class_table.proofs.renew.lines_under.Given as goal

abbrev pub invariant-loop-at : goal.invariant-loop-at
invariant-loop-at l = AreLinesTo l.classes l.places l.renewed l.at l.lines
