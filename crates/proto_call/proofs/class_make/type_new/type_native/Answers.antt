use Rattle.py_node.specs.declared.entry.TypeNative.TheVariants as type
use Rattle.proto_call.proofs.Lemmas.{[], End, EndsAs, PlainWorld, Reading, bindings, plain, class_group, class_job_say, type_native_say, DoType, ends-follow, read-follows, sorted_ends, type-ends, types-begin}
use Rattle.proto_call.proofs.class_make.type_new.type_native.Goals as goal

pub returns-in-New-clause-goes : goal.returns-in-New-clause-goes
returns-in-New-clause-goes c =
    types-begin c.args.native type.New c.args.args.items c.args.kw.items c.args.world.now c.type_new.new.world c.type_new.result c.in-New.is c.type_new.ensures.goes

pub returns-in-GetAttribute-clause-goes : goal.returns-in-GetAttribute-clause-goes
returns-in-GetAttribute-clause-goes c =
    let f = c.type_get_attribute in
    types-begin c.args.native type.GetAttribute c.args.args.items c.args.kw.items c.args.world.now f.new.world f.result c.in-GetAttribute.is f.ensures.goes

pub returns-in-SetAttr-clause-goes : goal.returns-in-SetAttr-clause-goes
returns-in-SetAttr-clause-goes c =
    let f = c.type_set_attr in
    types-begin c.args.native type.SetAttr c.args.args.items c.args.kw.items c.args.world.now f.new.world f.result c.in-SetAttr.is f.ensures.goes

pub returns-in-DelAttr-clause-goes : goal.returns-in-DelAttr-clause-goes
returns-in-DelAttr-clause-goes c =
    let f = c.type_del_attr in
    types-begin c.args.native type.DelAttr c.args.args.items c.args.kw.items c.args.world.now f.new.world f.result c.in-DelAttr.is f.ensures.goes

pub returns-in-Call-clause-goes : goal.returns-in-Call-clause-goes
returns-in-Call-clause-goes c =
    let f = c.type_call in
    types-begin c.args.native type.Call c.args.args.items c.args.kw.items c.args.world.now f.new.world f.result c.in-Call.is f.ensures.goes

pub returns-in_ok-answer-in_default-clause-goes : goal.returns-in_ok-answer-in_default-clause-goes
unfolding class_job_say
returns-in_ok-answer-in_default-clause-goes c =
    let n = c.args.native in
    let args = c.args.args.items in
    let kw = c.args.kw.items in
    let old = c.args.world.now in
    let f = c.type_native in
    let e = c.in_ok-answer-in_default in
    let d = c.in_default in
    let ends = rw (c.deref.ensures.value, c.deref-in_default.ensures.value) at f.ensures.ends in
    let row = λ (t : Reading) (u : PlainWorld). class_job_say u (DoType n args (bindings t kw)) in
    let said = λ (t : Reading) (u : PlainWorld). type_native_say u n args (bindings t kw) in
    read-follows class_group row (λ t u. row t u []) old f.new.world said (End e.answer) (λ t q. type-ends (plain t old) n args (bindings t kw) d.not-New d.not-GetAttribute d.not-SetAttr d.not-DelAttr d.not-Call)
    (ends-follow class_group row said old f.new.world e.answer (sorted_ends f.result e.answer (EndsAs said old f.new.world) e.ensures ends))
