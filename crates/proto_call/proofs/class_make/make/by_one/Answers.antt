use Rattle.proto_call.proofs.Lemmas.{◌∙◌, sym, subst, refl, IfSome, value, fault, Ends, TypeArgs, plain, bindings, IsNode, Holds, by_one, from_three, goes-from, makes-from, class-of, no-type, from-args, three-hold}
use Rattle.proto_call.proofs.class_make.make.by_one.Goals as goal

pub from_three-requires-clause-three : goal.from_three-requires-clause-three
from_three-requires-clause-three c =
    let w = c.args.world.now in
    let e = rw c.deref.ensures.value at c.three_of-three.ensures in
    subst (λ o. IfSome o (λ p. Holds w (IsNode p.0) × (Holds w (IsNode p.1.0) × Holds w (IsNode p.1.1)))) (sym e) (three-hold w c.args.call.args.items c.requires.rest.0)

pub returns-then-is_type-clause-goes : goal.returns-then-is_type-clause-goes
returns-then-is_type-clause-goes c =
    let w = c.args.world.now in
    makes-from c.args.call.kw.items (λ t u. by_one u c.args.meta.0 c.args.one c.args.call.args.items (bindings t c.args.call.kw.items)) (λ t u. Ends u (value c.type_object.result)) w w w _ (λ t r.
    (r, class-of (plain t w) c.args.meta.0 c.args.one c.in-Some.object c.type_object.result c.args.call.args.items (bindings t c.args.call.kw.items) c.in-Some.is (sym c.is_type.ensures ∙ c.if-is_type.true) (c.type_object.ensures.object t)))
    (λ meta args t r. (r, (refl, refl)))

pub returns-else-is_type-clause-goes : goal.returns-else-is_type-clause-goes
returns-else-is_type-clause-goes c =
    let w = c.args.world.now in
    rw c.raise.ensures (
    makes-from c.args.call.kw.items (λ t u. by_one u c.args.meta.0 c.args.one c.args.call.args.items (bindings t c.args.call.kw.items)) (λ t u. Ends u (fault TypeArgs)) w w w _ (λ t r.
    (r, no-type (plain t w) c.args.meta.0 c.args.one c.in-Some.object c.args.call.args.items (bindings t c.args.call.kw.items) c.in-Some.is (sym c.is_type.ensures ∙ c.if-is_type.false)))
    (λ meta args t r. (r, (refl, refl))))

pub returns-in-None-clause-goes : goal.returns-in-None-clause-goes
returns-in-None-clause-goes c =
    let w = c.args.world.now in
    let e = rw c.deref.ensures.value at c.three_of-three.ensures in
    goes-from c.args.call.kw.items (λ t u. by_one u c.args.meta.0 c.args.one c.args.call.args.items (bindings t c.args.call.kw.items)) (λ t u. from_three u c.args.meta.0 c.three_of-three.result c.args.call.args.items (bindings t c.args.call.kw.items)) w w c.from_three.new.world c.from_three.result (λ t r.
    (r, from-args (plain t w) c.args.meta.0 c.args.one c.three_of-three.result c.args.call.args.items (bindings t c.args.call.kw.items) c.in-None.is e))
    c.from_three.ensures.goes
