use Rattle.py_node.proofs.Below.{take, map, started_of}
use Rattle.std.proofs.Common.{◌≡◌}
use Rattle.py_node.proofs.clone.copy_calls.Given as goal

abbrev pub invariant-loop-call : goal.invariant-loop-call
invariant-loop-call l = map started_of l.copies.items ≡ map started_of (take l.call-index l.call-items)
