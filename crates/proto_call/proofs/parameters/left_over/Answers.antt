use Rattle.proto_call.proofs.Lemmas.{take_rest, spelled, left_over-read, nodes-drop}
use Rattle.proto_call.proofs.parameters.left_over.Goals as goal

pub returns-clause-items : goal.returns-clause-items
returns-clause-items c = λ t.
    rw take_rest (left_over-read (spelled t) c.args.params.now c.args.args.now c.min-taken.result c.min-taken.ensures)

pub returns-clause-holds : goal.returns-clause-holds
returns-clause-holds c = λ w h. rw take_rest (nodes-drop w c.args.args.now c.min-taken.result h)
