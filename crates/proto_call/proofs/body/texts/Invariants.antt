use Rattle.proto_call.proofs.Below.{map, take, string_bytes, Reading, spelled, bindings, plain, shown}
use Rattle.std.proofs.Common.{◌≡◌}
use Rattle.proto_call.proofs.body.texts.Given as goal

abbrev pub invariant-loop-param : goal.invariant-loop-param
invariant-loop-param l =
    (t : Reading) → map (λ s. string_bytes s) l.texts.items ≡ map (λ x. shown (plain t l.world) (bindings t l.vars) (spelled t x)) (take l.param-index l.params)
