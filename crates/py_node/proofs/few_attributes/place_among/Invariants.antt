use Rattle.py_node.proofs.Below.{drop, position_from, is_same_name}
use Rattle.std.proofs.Common.{◌≡◌}
use Rattle.py_node.proofs.few_attributes.place_among.Given as goal

abbrev pub invariant-loop-place : goal.invariant-loop-place
invariant-loop-place l =
    position_from (λ e. is_same_name e.0 l.name) 0 l.entries ≡ position_from (λ e. is_same_name e.0 l.name) l.place (drop l.place l.entries)
