use Rattle.class_world.proofs.Lemmas.{rules}
use Rattle.class_world.proofs.new_classes.single_with_node.Goals as goal

pub returns-in-Ok-new_single-clause-node : goal.returns-in-Ok-new_single-clause-node
returns-in-Ok-new_single-clause-node c = (c.in-Ok.places, rw c.in-Ok.is at c.empty_places.ensures, search rules)
