use Rattle.proto_call.proofs.Below.{filter, not, drop, is_same_name}
use Rattle.std.proofs.Common.{◌≡◌, ◌++◌}
use Rattle.proto_call.proofs.eval_forms.keywords.without.Given as goal

abbrev pub invariant-loop-key : goal.invariant-loop-key
invariant-loop-key l =
    l.rest.items ++ filter (λ k. not (is_same_name k.0 l.name)) (drop l.key-index l.keywords) ≡ filter (λ k. not (is_same_name k.0 l.name)) l.keywords
