use Rattle.proto_call.proofs.Below.{drop, map}
use Rattle.std.proofs.Common.{◌≡◌, ◌++◌}
use Rattle.proto_call.proofs.eval_forms.names_of.Given as goal

abbrev pub invariant-loop-entry : goal.invariant-loop-entry
invariant-loop-entry l = l.names.items ++ map (λ e. e.0) (drop l.entry-index l.entries) ≡ map (λ e. e.0) l.entries
