use Rattle.proto_call.proofs.Lemmas.{refl, sym, subst, bindings, New, Init, InitSubclass, object_by, object_new, object_init, object_init_subclass, Does, ◌∙◌, plain, EndsAs, object_native_say, does-after, does, ends-does, object-ends, sorted_ends}
use Rattle.std.proofs.Common.{IfOk}
use Rattle.proto_call.proofs.object.object_by.Goals as goal

pub returns-in-New-clause-goes : goal.returns-in-New-clause-goes
returns-in-New-clause-goes c =
    let old = c.args.world.now in
    subst (λ n. IfOk c.object_new.result (λ step. Does n (λ t u. object_by u n c.args.call.args.now (bindings t c.args.call.kw.now)) old c.object_new.new.world step)) (sym c.in-New.is)
    (does-after New (λ t u. object_new u c.args.call.args.now) old old c.object_new.new.world c.object_new.result (λ t r. r) (λ t. refl) c.object_new.ensures.goes)

pub returns-in-Init-clause-goes : goal.returns-in-Init-clause-goes
returns-in-Init-clause-goes c =
    let now = c.args.world.now in
    subst (λ n. Does n (λ t u. object_by u n c.args.call.args.now (bindings t c.args.call.kw.now)) now now c.object_init.result) (sym c.in-Init.is)
    (does Init (λ t u. object_init u c.args.call.args.now) now now c.object_init.result c.object_init.ensures.goes)

pub returns-in-InitSubclass-clause-goes : goal.returns-in-InitSubclass-clause-goes
returns-in-InitSubclass-clause-goes c =
    let now = c.args.world.now in
    subst (λ n. Does n (λ t u. object_by u n c.args.call.args.now (bindings t c.args.call.kw.now)) now now c.object_init_subclass.result) (sym c.in-InitSubclass.is)
    (does InitSubclass (λ t u. object_init_subclass u c.args.call.args.now (bindings t c.args.call.kw.now)) now now c.object_init_subclass.result c.object_init_subclass.ensures.goes)

pub returns-in-GetAttribute-clause-goes : goal.returns-in-GetAttribute-clause-goes
returns-in-GetAttribute-clause-goes c =
    let f = c.object_get_attribute in
    subst (λ n. IfOk f.result (λ step. Does n (λ t u. object_by u n c.args.call.args.now (bindings t c.args.call.kw.now)) c.args.world.now f.new.world step)) (sym c.in-GetAttribute.is) f.ensures.goes

pub returns-in-SetAttr-clause-goes : goal.returns-in-SetAttr-clause-goes
returns-in-SetAttr-clause-goes c =
    let f = c.object_set_attr in
    subst (λ n. IfOk f.result (λ step. Does n (λ t u. object_by u n c.args.call.args.now (bindings t c.args.call.kw.now)) c.args.world.now f.new.world step)) (sym c.in-SetAttr.is) f.ensures.goes

pub returns-in-DelAttr-clause-goes : goal.returns-in-DelAttr-clause-goes
returns-in-DelAttr-clause-goes c =
    let f = c.object_del_attr in
    subst (λ n. IfOk f.result (λ step. Does n (λ t u. object_by u n c.args.call.args.now (bindings t c.args.call.kw.now)) c.args.world.now f.new.world step)) (sym c.in-DelAttr.is) f.ensures.goes

pub returns-in-Str-clause-goes : goal.returns-in-Str-clause-goes
returns-in-Str-clause-goes c =
    let now = c.args.world.now in
    subst (λ n. Does n (λ t u. object_by u n c.args.call.args.now (bindings t c.args.call.kw.now)) now now c.object_str.result) (sym c.in-Str.is) c.object_str.ensures.goes

pub returns-in-Format-clause-goes : goal.returns-in-Format-clause-goes
returns-in-Format-clause-goes c =
    let now = c.args.world.now in
    subst (λ n. Does n (λ t u. object_by u n c.args.call.args.now (bindings t c.args.call.kw.now)) now now c.object_format.result) (sym c.in-Format.is) c.object_format.ensures.goes

pub returns-in-Dir-clause-goes : goal.returns-in-Dir-clause-goes
returns-in-Dir-clause-goes c =
    let now = c.args.world.now in
    subst (λ n. Does n (λ t u. object_by u n c.args.call.args.now (bindings t c.args.call.kw.now)) now now c.object_dir.result) (sym c.in-Dir.is) c.object_dir.ensures.goes

pub returns-in-Ne-clause-goes : goal.returns-in-Ne-clause-goes
returns-in-Ne-clause-goes c =
    let now = c.args.world.now in
    subst (λ n. Does n (λ t u. object_by u n c.args.call.args.now (bindings t c.args.call.kw.now)) now now c.object_ne.result) (sym c.in-Ne.is) c.object_ne.ensures.goes

pub returns-in_ok-ended-in_default-clause-goes : goal.returns-in_ok-ended-in_default-clause-goes
returns-in_ok-ended-in_default-clause-goes c =
    let n = c.args.native in
    let args = c.args.call.args.now in
    let kw = c.args.call.kw.now in
    let old = c.args.world.now in
    let f = c.object_native in
    let e = c.in_ok-ended-in_default in
    let d = c.in_default in
    let ends = sorted_ends f.result e.ended (EndsAs (λ t u. object_native_say u n args (bindings t kw)) old f.new.world) e.ensures f.ensures.ends in
    ends-does n (λ t u. object_by u n args (bindings t kw)) old f.new.world e.ended (λ t q.
    let k = ends t q in (k.0, object-ends (plain t old) n args (bindings t kw) d.not-New d.not-Init d.not-InitSubclass d.not-GetAttribute d.not-SetAttr d.not-DelAttr d.not-Str d.not-Format d.not-Dir d.not-Ne ∙ k.1))
