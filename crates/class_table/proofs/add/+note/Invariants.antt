use Rattle.class_table.proofs.Below.{length}
use Rattle.class_table.proofs.add.+note.Given as goal

abbrev pub decreases-note : goal.decreases-note
decreases-note l = length l.bases.now
