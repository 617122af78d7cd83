use Rattle.class_world.proofs.Below.{take, fold, with_own_node}
use Rattle.std.proofs.Common.{◌≡◌}
use Rattle.class_world.proofs.attributes_of_built_ins.add_objects.Given as goal

abbrev pub invariant-loop-attr : goal.invariant-loop-attr
invariant-loop-attr l = l.nodes.items ≡ fold (with_own_node l.fn.class) l.initial.nodes.items (take l.attr-index l.attr-items)
