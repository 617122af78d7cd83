use Rattle.proto_attr.proofs.Lemmas.{Some, Option, PyObjectRef, PlainWorld, Said, datum_at, bindings, plain, err_from_is_err_and, native_get, native_get_by_name, taken-descriptor}
use Rattle.proto_attr.proofs.native_calls.bind.native_get_by_name.Goals as goal

abbrev go : PlainWorld → PyObjectRef → PyObjectRef → Option PyObjectRef → Said
go u m o k = native_get u (datum_at u m) m (Some o) k

pub returns-in_err-m-clause-ends : goal.returns-in_err-m-clause-ends
returns-in_err-m-clause-ends c =
    let p = err_from_is_err_and c.from_residual.result c.from_residual.ensures.1 in
    rw (p.1, p.2) (λ t q. (q, c.in_err-m.ensures.refused t (go (plain t c.args.world.now))))

pub returns-clause-ends : goal.returns-clause-ends
returns-clause-ends c =
    let a = c.args in
    let p = c.in_ok-m in
    taken-descriptor (λ t u. native_get_by_name u a.call.args.now (bindings t a.call.kw.now)) (λ t u. native_get u (datum_at u p.m) p.m (Some p.o) p.class) a.world.now c.bind_native.new.world c.bind_native.result (λ t. p.ensures.given t (go (plain t a.world.now))) c.bind_native.ensures.goes
