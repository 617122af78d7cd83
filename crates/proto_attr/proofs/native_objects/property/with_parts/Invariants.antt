use Rattle.proto_attr.proofs.Below.{drop, Some, Reading, Reads, bindings, AllHold, of_property, with_parts}
use Rattle.std.proofs.Common.{◌≡◌}
use Rattle.proto_attr.proofs.native_objects.property.with_parts.Given as goal

abbrev pub invariant-loop-pair : goal.invariant-loop-pair
invariant-loop-pair l = record {
  parts : (t : Reading) → Reads t l.world → with_parts (Some l.parts) (bindings t (drop l.pair-index l.kw)) ≡ with_parts (Some l.initial.parts) (bindings t l.kw);
  holds : AllHold l.world (of_property l.parts);
}
