use Rattle.proto_attr.proofs.Lemmas.{◌∙◌, Some, Option, Err, refl, PyObjectRef, PlainWorld, Said, datum_at, bindings, plain, super_get, super_get_by_name, ends-does, super-does}
use Rattle.proto_attr.proofs.native_calls.supers.super_get_by_name.Goals as goal

abbrev go : PlainWorld → PyObjectRef → PyObjectRef → Option PyObjectRef → Said
go u m o k = super_get u (datum_at u m) m (Some o)

pub returns-in-Err-clause-goes : goal.returns-in-Err-clause-goes
returns-in-Err-clause-goes c =
    let a = c.args in
    ends-does a.entry (λ t u. super_get_by_name u a.call.args.now (bindings t a.call.kw.now)) a.world.now (Err c.in-Err.raised) (λ t. c.in-Err.ensures.refused t (go (plain t a.world.now)))

pub returns-in-None-clause-goes : goal.returns-in-None-clause-goes
returns-in-None-clause-goes c =
    let a = c.args in
    let p = c.in-Ok in
    ends-does a.entry (λ t u. super_get_by_name u a.call.args.now (bindings t a.call.kw.now)) a.world.now _ (λ t.
    p.ensures.given t (go (plain t a.world.now)) ∙ c.in-None.ensures.reads t)

pub returns-in-Some-clause-goes : goal.returns-in-Some-clause-goes
returns-in-Some-clause-goes c =
    let a = c.args in
    let p = c.in-Ok in
    super-does a.entry (λ t u. super_get_by_name u a.call.args.now (bindings t a.call.kw.now)) a.world.now p.m c.in-Some.class c.in-Some.object _ c.requires.way (λ t.
    p.ensures.given t (go (plain t a.world.now)) ∙ c.in-Some.ensures.reads t) (λ t. refl)
