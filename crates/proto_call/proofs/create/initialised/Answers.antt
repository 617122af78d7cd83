use Rattle.proto_call.proofs.Lemmas.{[], refl, IsNode, of_each, of_binding, all-append}
use Rattle.std.proofs.Common.{◌∷◌}
use Rattle.proto_call.proofs.create.initialised.Goals as goal

pub returns-else-is_answer-clause-safe : goal.returns-else-is_answer-clause-safe
returns-else-is_answer-clause-safe c = λ w h k.
    ((k, (h.1.0, all-append w (of_each of_binding c.args.kw.items) (IsNode c.args.object ∷ []) h.1.1 (k, tt))), refl)
