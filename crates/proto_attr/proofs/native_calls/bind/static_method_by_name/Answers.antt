use Rattle.proto_attr.proofs.Lemmas.{◌∙◌, Option, PyObjectRef, PlainWorld, Said, datum_at, plain, static_method_get}
use Rattle.proto_attr.proofs.native_calls.bind.static_method_by_name.Goals as goal

abbrev go : PlainWorld → PyObjectRef → PyObjectRef → Option PyObjectRef → Said
go u m o k = static_method_get u (datum_at u m) m

pub returns-in-Err-clause-ends : goal.returns-in-Err-clause-ends
returns-in-Err-clause-ends c = λ t q. (q, c.in-Err.ensures.refused t (go (plain t c.args.world.now)))

pub returns-in-Ok-clause-ends : goal.returns-in-Ok-clause-ends
returns-in-Ok-clause-ends c = λ t q.
    let u = plain t c.args.world.now in
    (q, c.in-Ok.ensures.given t (go u) ∙ c.static_method_get.ensures.value t u)
