use Rattle.proto_object.proofs.Below.{filter, not, drop, Reading, Reads, bindings, plain, AreNodes, Holds, has_name, other_keys}
use Rattle.std.proofs.Common.{◌≡◌, ◌++◌}
use Rattle.proto_object.proofs.names.other_keys.Given as goal

abbrev pub invariant-loop-key : goal.invariant-loop-key
invariant-loop-key l =
    Holds l.world (AreNodes l.others.items)
    × ((t : Reading) → Reads t l.world → l.others.items ++ filter (λ k. not (has_name (plain t l.world) (bindings t l.attrs) k)) (drop l.key-index l.keys) ≡ other_keys (plain t l.world) (bindings t l.attrs) l.keys)
