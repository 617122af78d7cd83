use Rattle.serve.proofs.Lemmas.{arith, Question, IsSpelled, IsRoomFor, spelled-not_refused, done-or-poor}
use Rattle.std.proofs.Common.{◌≡◌}
use Rattle.serve.proofs.answer.answer_source.Goals as goal

pub returns-in-Ok-clause-ahead : goal.returns-in-Ok-clause-ahead
returns-in-Ok-clause-ahead g c = λ x left spelled few quiet room.
    let q = c.args.question in
    let read = c.deref.result.now in
    let same : read ≡ x = grind arith in
    let spelled_here : IsSpelled q read = rw same spelled in
    let room_here : IsRoomFor (g.K.Sink.sure c.args.sink.now) q read = rw same room in
    let answer = c.answer.ensures in
    done-or-poor c.answer.result answer.usage (λ e is. spelled-not_refused q read e spelled_here (answer.script e is)) answer.read_fault answer.too_large (answer.sure room_here)
