use Rattle.class_table.proofs.Below.{length}
use Rattle.class_table.proofs.add.+forget.Given as goal

abbrev pub decreases-forget : goal.decreases-forget
decreases-forget l = length l.bases.now
