use Rattle.class_view.proofs.Below.{length}
use Rattle.class_view.proofs.same.+same_classes.Given as goal

abbrev pub decreases-same_classes : goal.decreases-same_classes
decreases-same_classes l = length l.a.now
