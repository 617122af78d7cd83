use Rattle.py_node.proofs.Below.{drop, position_from, is_same_key}
use Rattle.std.proofs.Common.{◌≡◌}
use Rattle.py_node.proofs.few_keys.place_among.Given as goal

abbrev pub invariant-loop-place : goal.invariant-loop-place
invariant-loop-place l = position_from (is_same_key l.key) 0 l.keys ≡ position_from (is_same_key l.key) l.place (drop l.place l.keys)
