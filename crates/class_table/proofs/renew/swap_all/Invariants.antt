use Rattle.class_table.proofs.Swapped.{Swapping}
use Rattle.class_table.proofs.renew.swap_all.Given as goal

abbrev pub invariant-loop-index : goal.invariant-loop-index
invariant-loop-index l = Swapping l.fn.renewed.items l.fn.classes l.places l.index l.renewed.items l.classes
