use Rattle.class_world.proofs.Lemmas.{rules}
use Rattle.class_world.proofs.new_classes.heap_with_node.Goals as goal

pub returns-in-Ok-new_heap_slots-clause-node : goal.returns-in-Ok-new_heap_slots-clause-node
returns-in-Ok-new_heap_slots-clause-node c = (c.in-Ok.members, rw c.in-Ok.is at c.empty_places.ensures, search rules)
