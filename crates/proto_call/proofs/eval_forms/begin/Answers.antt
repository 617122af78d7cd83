use Rattle.proto_call.proofs.Lemmas.{no-nodes}
use Rattle.proto_call.proofs.eval_forms.begin.Goals as goal

pub next_operand-requires-clause-values : goal.next_operand-requires-clause-values
next_operand-requires-clause-values c = rw c.new.ensures.items (no-nodes _)
