use Rattle.proto_ops.proofs.Lemmas.{[], no-nodes, more-nodes}
use Rattle.std.proofs.Common.{◌∷◌}
use Rattle.proto_ops.proofs.enter.three.Goals as goal

pub returns-clause-holds : goal.returns-clause-holds
returns-clause-holds c = λ w h k l.
    let a = c.args.a in
    let b = c.args.b in
    let both = more-nodes w (a ∷ []) b (more-nodes w [] a (no-nodes w) h) k in
    rw c.in_ok-vec.ensures.items (more-nodes w (a ∷ b ∷ []) c.args.c both l)
