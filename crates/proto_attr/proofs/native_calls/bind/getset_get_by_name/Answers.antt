use Rattle.proto_attr.proofs.Lemmas.{Some, Option, PyObjectRef, PlainWorld, Said, datum_at, bindings, plain, getset_get, getset_get_by_name, taken-steps}
use Rattle.proto_attr.proofs.native_calls.bind.getset_get_by_name.Goals as goal

abbrev go : PlainWorld → PyObjectRef → PyObjectRef → Option PyObjectRef → Said
go u m o k = getset_get u (datum_at u m) m (Some o)

pub returns-in-Err-clause-steps : goal.returns-in-Err-clause-steps
returns-in-Err-clause-steps c = λ t q. (q, c.in-Err.ensures.refused t (go (plain t c.args.world.now)))

pub returns-in-Ok-clause-steps : goal.returns-in-Ok-clause-steps
returns-in-Ok-clause-steps c =
    let a = c.args in
    let p = c.in-Ok in
    taken-steps (λ t u. getset_get_by_name u a.call.args.now (bindings t a.call.kw.now)) (λ t u. getset_get u (datum_at u p.m) p.m (Some p.o)) a.world.now a.world.now c.bind_getset.result (λ t. p.ensures.given t (go (plain t a.world.now))) c.bind_getset.ensures.steps
