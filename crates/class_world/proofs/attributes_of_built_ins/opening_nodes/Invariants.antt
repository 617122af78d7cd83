use Rattle.class_world.proofs.Below.{take, fold, start_nodes, with_own_nodes}
use Rattle.std.proofs.Common.{◌≡◌}
use Rattle.class_world.proofs.attributes_of_built_ins.opening_nodes.Given as goal

abbrev pub invariant-loop-row : goal.invariant-loop-row
invariant-loop-row l = l.nodes.items ≡ fold (λ ns r. with_own_nodes ns r.0) start_nodes (take l.row-index l.row-items)
