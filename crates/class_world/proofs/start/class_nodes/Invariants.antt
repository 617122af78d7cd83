use Rattle.class_world.proofs.Below.{map, take, all_built_ins, class_node}
use Rattle.std.proofs.Common.{◌≡◌}
use Rattle.class_world.proofs.start.class_nodes.Given as goal

abbrev pub invariant-loop-row : goal.invariant-loop-row
invariant-loop-row l = l.nodes.items ≡ map class_node (take l.row-index all_built_ins)
