use Rattle.proto_call.proofs.Lemmas.{Some, ok-map, body-begins}
use Rattle.proto_call.proofs.body.begin_body.Goals as goal

pub returns-in-Some-clause-goes : goal.returns-in-Some-clause-goes
returns-in-Some-clause-goes c =
    let runs = rw c.in-Some.is at c.in_ok-function.ensures.runs in
    let goes = rw (c.deref.ensures.value, c.deref-in-Some.ensures.value) at c.by_place.ensures.goes in
    ok-map _ _ c.by_place.result (λ step h. body-begins c.args.world.now c.by_place.new.world c.args.f c.args.args c.args.kw (Some c.in-Some.function) step runs h) goes
