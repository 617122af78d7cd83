use Rattle.py_node.proofs.Below.{take}
use Rattle.std.proofs.Common.{◌≡◌}
use Rattle.py_node.proofs.attributes.same_map.Given as goal

abbrev pub invariant-loop-entry : goal.invariant-loop-entry
invariant-loop-entry l = l.map.entries ≡ take l.entry-index l.entries
