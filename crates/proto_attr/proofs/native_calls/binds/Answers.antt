use Rattle.proto_attr.proofs.Lemmas.{subst, sym, bindings, Binds, Does, End, by_way, ended-does, function_get_by_name, native_get_by_name, sorted_ends}
use Rattle.proto_attr.proofs.native_calls.binds.Goals as goal

pub returns-in-ClassMethod-clause-goes : goal.returns-in-ClassMethod-clause-goes
returns-in-ClassMethod-clause-goes c =
    let a = c.args in
    let f = c.class_method_by_name in
    subst (λ k. Does a.entry (λ t u. by_way u (Binds k) a.entry a.call.args.now (bindings t a.call.kw.now)) a.world.now a.world.now f.result) (sym c.in-ClassMethod.is) f.ensures.goes

pub returns-in-Super-clause-goes : goal.returns-in-Super-clause-goes
returns-in-Super-clause-goes c =
    let a = c.args in
    let f = c.super_get_by_name in
    subst (λ k. Does a.entry (λ t u. by_way u (Binds k) a.entry a.call.args.now (bindings t a.call.kw.now)) a.world.now a.world.now f.result) (sym c.in-Super.is) f.ensures.goes

pub returns-in_ok-ended-in-Function-clause-goes : goal.returns-in_ok-ended-in-Function-clause-goes
returns-in_ok-ended-in-Function-clause-goes c =
    let a = c.args in
    let f = c.function_get_by_name in
    let e = c.in_ok-ended-in-Function in
    let ends = sorted_ends f.result e.ended _ e.ensures f.ensures.ends in
    subst (λ k. Does a.entry (λ t u. by_way u (Binds k) a.entry a.call.args.now (bindings t a.call.kw.now)) a.world.now f.new.world (End e.ended)) (sym c.in-Function.is) (ended-does a.entry (λ t u. function_get_by_name u a.call.args.now (bindings t a.call.kw.now)) a.world.now f.new.world e.ended ends)

pub returns-in_ok-ended-in-Native-clause-goes : goal.returns-in_ok-ended-in-Native-clause-goes
returns-in_ok-ended-in-Native-clause-goes c =
    let a = c.args in
    let f = c.native_get_by_name in
    let e = c.in_ok-ended-in-Native in
    let ends = sorted_ends f.result e.ended _ e.ensures f.ensures.ends in
    subst (λ k. Does a.entry (λ t u. by_way u (Binds k) a.entry a.call.args.now (bindings t a.call.kw.now)) a.world.now f.new.world (End e.ended)) (sym c.in-Native.is) (ended-does a.entry (λ t u. native_get_by_name u a.call.args.now (bindings t a.call.kw.now)) a.world.now f.new.world e.ended ends)
