use Rattle.class_world.proofs.Lemmas.{[], no-nodes, more-nodes}
use Rattle.std.proofs.Common.{◌∷◌}
use Rattle.class_world.proofs.args.both.Goals as goal

pub returns-clause-holds : goal.returns-clause-holds
returns-clause-holds c = λ w h k.
    rw c.in_ok-vec.ensures.items (more-nodes w (c.args.a ∷ []) c.args.b (more-nodes w [] c.args.a (no-nodes w) h) k)
