use Rattle.proto_attr.proofs.Lemmas.{◌∙◌, ap, Some, Option, Err, PyObjectRef, PlainWorld, Said, datum_at, bindings, plain, [], Get, known_text, Asks, DoGetAttr, ReadObjects, ToAttribute, of_task, IsNode, all-append, class_for, class_method_get, class_method_by_name, class-does, ends-does}
use Rattle.std.proofs.Common.{◌∷◌}
use Rattle.proto_attr.proofs.native_calls.bind.class_method_by_name.Goals as goal

abbrev go : PlainWorld → PyObjectRef → PyObjectRef → Option PyObjectRef → Said
go u m o k = class_method_get u (datum_at u m) m (class_for u (Some o) k)

pub returns-in-Err-clause-goes : goal.returns-in-Err-clause-goes
returns-in-Err-clause-goes c =
    let a = c.args in
    ends-does a.entry (λ t u. class_method_by_name u a.call.args.now (bindings t a.call.kw.now)) a.world.now (Err c.in-Err.raised) (λ t. c.in-Err.ensures.refused t (go (plain t a.world.now)))

pub returns-in-None-clause-goes : goal.returns-in-None-clause-goes
returns-in-None-clause-goes c =
    let a = c.args in
    let p = c.in-Ok in
    ends-does a.entry (λ t u. class_method_by_name u a.call.args.now (bindings t a.call.kw.now)) a.world.now _ (λ t.
    let u = plain t a.world.now in p.ensures.given t (go u) ∙ c.in-None.ensures.reads t u (class_for u (Some p.o) p.class))

pub returns-in-Some-clause-goes : goal.returns-in-Some-clause-goes
returns-in-Some-clause-goes c =
    let a = c.args in
    let p = c.in-Ok in
    let f = c.in-Some.func in
    class-does a.entry (λ t u. class_method_by_name u a.call.args.now (bindings t a.call.kw.now)) a.world.now c.class_for-class.result f c.get_of.result c.requires.way (λ t.
    let u = plain t a.world.now in
    p.ensures.given t (go u) ∙ c.in-Some.ensures.reads t u (class_for u (Some p.o) p.class)
    ∙ ap (λ k. Asks u (ReadObjects (k ∷ f ∷ []) ∷ []) (ToAttribute (DoGetAttr f (known_text Get)))) (c.class_for-class.ensures.object t))
    c.get_of.ensures.task

pub returns-in-Some-clause-safe : goal.returns-in-Some-clause-safe
returns-in-Some-clause-safe c =
    all-append c.args.world.now (of_task c.get_of.result) (IsNode c.class_for-class.result ∷ (IsNode c.in-Some.func ∷ [])) c.get_of.ensures.holds (c.class_for-class.ensures.node, (c.in-Some.ensures.holds.0, tt))
