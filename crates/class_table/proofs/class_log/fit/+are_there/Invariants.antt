use Rattle.class_table.proofs.Below.{length}
use Rattle.class_table.proofs.class_log.fit.+are_there.Given as goal

abbrev pub decreases-are_there : goal.decreases-are_there
decreases-are_there l = length l.named.now
