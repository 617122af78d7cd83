use Rattle.py_node.proofs.Below.{take}
use Rattle.std.proofs.Common.{◌≡◌}
use Rattle.py_node.proofs.key_index.set_of.Given as goal

abbrev pub invariant-loop-key : goal.invariant-loop-key
invariant-loop-key l = l.set.keys ≡ take l.key-index l.keys
