use Rattle.proto_call.proofs.Lemmas.{ap, sym, ◌∙◌, arith, drop, plain, of_binding, of_each, all-append, all-first, all-rest, each-get, got, grows-itself, special_at, of_telling, ask-value, skipping-ends, skipping-step}
use Rattle.std.proofs.Common.{◌+◌}
use Rattle.proto_call.proofs.ClassMake.Telling.{drop-got}
use Rattle.proto_call.proofs.class_make.tell.bind_next.Goals as goal

pub special-requires : goal.special-requires
special-requires c =
    let p = c.args.telling in
    let w = c.args.world.now in
    let e = got p.values.items c.loop-i.i c.index.result.now (omega arith) c.index.ensures in
    (each-get w of_binding p.values.items c.loop-i.i c.index.result.now e (all-rest w (of_each of_binding p.kw.items) (of_each of_binding p.values.items) c.requires.telling.1)).1.0

pub type_object-class-requires : goal.type_object-class-requires
type_object-class-requires c =
    let p = c.args.telling in
    let w = c.args.world.now in
    let e = got p.values.items c.loop-i.i c.index.result.now (omega arith) c.index.ensures in
    (each-get w of_binding p.values.items c.loop-i.i c.index.result.now e (all-rest w (of_each of_binding p.kw.items) (of_each of_binding p.values.items) c.requires.telling.1)).1.0

pub returns-in-Some-clause-goes : goal.returns-in-Some-clause-goes
returns-in-Some-clause-goes c =
    let p = c.args.telling in
    let w = c.args.world.now in
    let a = c.index.result.now in
    let e = got p.values.items c.loop-i.i a (omega arith) c.index.ensures in
    c.loop-i.invariant.on w _ (ask-value w c.in-Some.method a.1 c.type_object-class.result (record { class = p.class; kw = p.kw; values = p.values; next = c.loop-i.i + 1 }) c.args.hooks a.0 (drop c.loop-i.i p.values.items) (λ t r. ap (special_at (plain t w) a.1) (sym (c.known-set_name.ensures.spelled t r)) ∙ c.in-Some.ensures.found t r) c.type_object-class.ensures.object (drop-got p.values.items c.loop-i.i a e))

pub returns-in-Some-clause-safe : goal.returns-in-Some-clause-safe
returns-in-Some-clause-safe c =
    let p = c.args.telling in
    let w = c.args.world.now in
    let e = got p.values.items c.loop-i.i c.index.result.now (omega arith) c.index.ensures in
    let a = each-get w of_binding p.values.items c.loop-i.i c.index.result.now e (all-rest w (of_each of_binding p.kw.items) (of_each of_binding p.values.items) c.requires.telling.1) in
    (grows-itself w, (c.in-Some.ensures.node, (c.type_object-class.ensures.node, (a.1.0, (a.0, all-append w (of_telling p) (of_each of_binding c.args.hooks.items) c.requires.telling c.requires.hooks)))))

pub loop-i-preserved : goal.loop-i-preserved
loop-i-preserved c =
    let p = c.args.telling in
    let w = c.args.world.now in
    let a = c.index.result.now in
    let e = got p.values.items c.loop-i.i a (omega arith) c.index.ensures in
    skipping-step w p c.args.hooks.items c.loop-i.i a c.loop-i.invariant e (λ t r. ap (special_at (plain t w) a.1) (sym (c.known-set_name.ensures.spelled t r)) ∙ c.in-None.ensures.found t r)

pub call_next-requires : goal.call_next-requires
call_next-requires c =
    let p = c.args.telling in
    let w = c.args.world.now in
    (c.requires.telling.0, all-append w (of_each of_binding p.kw.items) (of_each of_binding c.args.hooks.items) (all-first w (of_each of_binding p.kw.items) (of_each of_binding p.values.items) c.requires.telling.1) c.requires.hooks)

pub returns-clause-goes : goal.returns-clause-goes
returns-clause-goes c =
    skipping-ends c.args.world.now c.call_next.new.world c.args.telling c.args.hooks.items c.loop-i.i c.call_next.result c.loop-i.invariant (omega arith) c.call_next.ensures.goes
