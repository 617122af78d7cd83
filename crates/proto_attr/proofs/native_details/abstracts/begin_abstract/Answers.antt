use Rattle.proto_attr.proofs.Lemmas.{◌∙◌, [], false, ap, refl, sym, all-append, of_task, bindings, plain, IsNode, DoBinary, ToOperator, truth, with_one, Or, abstract_by, listed, asks-getter, asks-setter, asks-both}
use Rattle.std.proofs.Common.{◌∷◌}
use Rattle.proto_attr.proofs.native_details.abstracts.begin_abstract.Goals as goal

pub returns-in-Some-clause-goes : goal.returns-in-Some-clause-goes
returns-in-Some-clause-goes c =
    let a = c.args in
    let w = a.world.now in
    let p = c.in-Ok.own.1 in
    asks-getter w a.detail a.call.args.now a.call.kw.now c.ask_whether.result c.in-Ok.own.0 c.in-Some.getter c.in-Ok.ensures.first (λ t.
    c.in-Ok.ensures.given t (λ o q. with_one (plain t w) a.call.args.now (bindings t a.call.kw.now) (λ b. abstract_by (plain t w) (listed q.fget) (listed q.fset) []))
    ∙ c.in_default.ensures.given t (plain t w) (λ b. abstract_by (plain t w) (listed p.fget) (listed p.fset) [])
    ∙ ap (λ f. abstract_by (plain t w) (listed f) (listed p.fset) []) c.in-Some.is) (λ t q. c.ask_whether.ensures.task t q)

pub returns-in-Some-clause-safe : goal.returns-in-Some-clause-safe
returns-in-Some-clause-safe c =
    all-append c.args.world.now (of_task c.ask_whether.result) (IsNode c.in-Ok.own.0 ∷ []) c.ask_whether.ensures.holds (c.in-Ok.ensures.node, tt)

pub returns-in-Some-fset-clause-goes : goal.returns-in-Some-fset-clause-goes
returns-in-Some-fset-clause-goes c =
    let a = c.args in
    let w = a.world.now in
    let p = c.in-Ok.own.1 in
    asks-setter w a.detail a.call.args.now a.call.kw.now c.ask_whether-in-Some-fset.result c.truth-missing.result c.in-Some-fset.setter (sym c.truth-missing.ensures.object) (λ t.
    c.in-Ok.ensures.given t (λ o q. with_one (plain t w) a.call.args.now (bindings t a.call.kw.now) (λ b. abstract_by (plain t w) (listed q.fget) (listed q.fset) []))
    ∙ c.in_default.ensures.given t (plain t w) (λ b. abstract_by (plain t w) (listed p.fget) (listed p.fset) [])
    ∙ ap (λ f. abstract_by (plain t w) (listed f) (listed p.fset) []) c.in-None.is
    ∙ ap (λ f. abstract_by (plain t w) [] (listed f) []) c.in-Some-fset.is) (λ t q. c.ask_whether-in-Some-fset.ensures.task t q)

pub returns-in-Some-fset-clause-safe : goal.returns-in-Some-fset-clause-safe
returns-in-Some-fset-clause-safe c =
    all-append c.args.world.now (of_task c.ask_whether-in-Some-fset.result) (IsNode c.truth-missing.result ∷ []) c.ask_whether-in-Some-fset.ensures.holds (c.truth-missing.ensures.node, tt)

pub returns-in-None-fset-clause-goes : goal.returns-in-None-fset-clause-goes
returns-in-None-fset-clause-goes c =
    let a = c.args in
    let w = a.world.now in
    let p = c.in-Ok.own.1 in
    let missing = truth false in
    asks-both w a.detail a.call.args.now a.call.kw.now c.both.result (ToOperator (DoBinary Or missing missing)) (λ t.
    c.in-Ok.ensures.given t (λ o q. with_one (plain t w) a.call.args.now (bindings t a.call.kw.now) (λ b. abstract_by (plain t w) (listed q.fget) (listed q.fset) []))
    ∙ c.in_default.ensures.given t (plain t w) (λ b. abstract_by (plain t w) (listed p.fget) (listed p.fset) [])
    ∙ ap (λ f. abstract_by (plain t w) (listed f) (listed p.fset) []) c.in-None.is
    ∙ ap (λ f. abstract_by (plain t w) [] (listed f) []) c.in-None-fset.is) (λ t. rw (c.both.ensures, sym c.truth-missing-in-None-fset.ensures.object) refl)
