use Rattle.proto_call.proofs.Below.{map, take}
use Rattle.std.proofs.Common.{◌≡◌}
use Rattle.proto_call.proofs.class_make.type_natives.keys_of.Given as goal

abbrev pub invariant-loop-entry : goal.invariant-loop-entry
invariant-loop-entry l = l.keys.items ≡ map (λ e. e.0) (take l.entry-index l.entries)
