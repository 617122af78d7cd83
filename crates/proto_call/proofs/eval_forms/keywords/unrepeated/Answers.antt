use Rattle.proto_call.proofs.Lemmas.{arith, are-repeated, are-single}
use Rattle.proto_call.proofs.eval_forms.keywords.unrepeated.Goals as goal

pub returns-then-len-names-clause-keywords : goal.returns-then-len-names-clause-keywords
returns-then-len-names-clause-keywords c = λ t.
    are-repeated t c.args.names.now c.args.values.now c.in_ok-keywords.keywords (c.in_ok-keywords.ensures.vars t) c.requires (grind arith)

pub returns-else-len-names-clause-keywords : goal.returns-else-len-names-clause-keywords
returns-else-len-names-clause-keywords c = λ t.
    are-single t c.args.names.now c.args.values.now c.in_ok-keywords.keywords (c.in_ok-keywords.ensures.vars t) c.requires (grind arith)
