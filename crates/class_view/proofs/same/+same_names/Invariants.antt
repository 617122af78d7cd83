use Rattle.class_view.proofs.Below.{length}
use Rattle.class_view.proofs.same.+same_names.Given as goal

abbrev pub decreases-same_names : goal.decreases-same_names
decreases-same_names l = length l.a.now
