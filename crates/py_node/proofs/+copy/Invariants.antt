use Rattle.py_node.proofs.Below.{take, map, tree_of, part_of, pair_of}
use Rattle.std.proofs.Common.{◌≡◌}
use Rattle.py_node.proofs.+copy.Given as goal

abbrev pub invariant-clone::copy_all-loop-expr : goal.invariant-clone::copy_all-loop-expr
invariant-clone::copy_all-loop-expr l = map tree_of l.copies.items ≡ map tree_of (take l.expr-index l.expr-items)

abbrev pub invariant-clone::copy_entries-loop-name : goal.invariant-clone::copy_entries-loop-name
invariant-clone::copy_entries-loop-name l = map part_of l.copies.items ≡ map part_of (take l.name-index l.name-items)

abbrev pub invariant-clone::copy_pairs-loop-key : goal.invariant-clone::copy_pairs-loop-key
invariant-clone::copy_pairs-loop-key l = map pair_of l.copies.items ≡ map pair_of (take l.key-index l.key-items)
