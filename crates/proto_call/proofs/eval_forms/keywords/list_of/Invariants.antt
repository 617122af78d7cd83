use Rattle.proto_call.proofs.Below.{drop}
use Rattle.std.proofs.Common.{◌≡◌, ◌++◌}
use Rattle.proto_call.proofs.eval_forms.keywords.list_of.Given as goal

abbrev pub invariant-loop-i : goal.invariant-loop-i
invariant-loop-i l = l.list.items ++ drop l.i l.keywords ≡ l.keywords
