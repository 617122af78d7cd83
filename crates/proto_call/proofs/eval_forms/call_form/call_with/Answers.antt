use Rattle.proto_call.proofs.Lemmas.{[], of_task, AllHold, Holds, AreNodes, of_binding, of_each, all-append, take-nodes, drop-nodes}
use Rattle.proto_call.proofs.eval_forms.call_form.call_with.Goals as goal

pub returns-in_ok-keywords-in-Some-clause-safe : goal.returns-in_ok-keywords-in-Some-clause-safe
returns-in_ok-keywords-in-Some-clause-safe c = λ w h n v.
    let count = c.args.count in
    let values = c.args.values.now in
    let args : Holds w (AreNodes c.in_ok-args-in-Some.args.items) =
    rw (c.in_ok-args-in-Some.ensures, c.split_at.ensures.front) (take-nodes w count values v) in
    let rest : Holds w (AreNodes c.split_at.result.1.now) = rw c.split_at.ensures.back (drop-nodes w count values v) in
    let held = rw c.in-Some.is at c.in_ok-unrepeated.ensures.holds in
    let keywords : AllHold w (of_each of_binding c.in_ok-keywords-in-Some.keywords.items) = rw c.in_ok-keywords-in-Some.ensures (held w n rest) in
    all-append w (of_task c.call_task.result) [] (c.call_task.ensures.safe w h (args, keywords)) tt
