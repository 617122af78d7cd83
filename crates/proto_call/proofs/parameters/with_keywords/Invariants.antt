use Rattle.proto_call.proofs.Below.{true, map, drop, PyStrInterned, Held, Reading, spelled, bindings, AllHold, has_value, of_binding, of_each, with_keywords}
use Rattle.std.proofs.Common.{◌≡◌}
use Rattle.proto_call.proofs.parameters.with_keywords.Given as goal

abbrev pub invariant-loop-name : goal.invariant-loop-name
invariant-loop-name l = record {
  vars : (t : Reading) → with_keywords (map (spelled t) l.params) (bindings t l.vars) (bindings t (drop l.name-index l.keywords)) ≡ with_keywords (map (spelled t) l.params) (bindings t l.fn.vars) (bindings t l.keywords);
  keeps : (x : PyStrInterned) → has_value l.fn.vars x ≡ true → has_value l.vars x ≡ true;
  holds : (w : Held) → AllHold w (of_each of_binding l.fn.vars) → AllHold w (of_each of_binding l.keywords) → AllHold w (of_each of_binding l.vars);
}
