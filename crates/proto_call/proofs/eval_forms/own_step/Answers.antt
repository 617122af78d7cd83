use Rattle.proto_call.proofs.Lemmas.{IfOk, length, map, ap, sym, subst, ◌∙◌, PlainWorld, Reading, spelled, ok-map, one_of, op_say, attr_say, set_attr_say, del_attr_say, called_say, if_say, seq_say, raise_say, class_say, two_of, IsOwn, Goes, Continues, operands_at, args_of, keywords_of, own-closes, own-takes, own-takes-read, says-attr, says-set, says-call, says-raise, attr-name, call-func, says-op, says-del, says-if, says-seq, del-name, if-branches, says-class, class-long, class-names, set-name, one-holds, own-const, own-func, own-tuple, own-list, no-pairs, own-dict, grows-itself}
use Rattle.proto_call.proofs.eval_forms.own_step.Goals as goal

pub returns-in-Const-clause-goes : goal.returns-in-Const-clause-goes
returns-in-Const-clause-goes c =
    let f = c.form.result.now in
    let own = subst (λ o. IsOwn o f) c.in-Const.is c.in_ok-constant.ensures in
    let long = ap (λ o. length (operands_at o)) (sym c.form.ensures.stored) ∙ c.requires.all in
    own-const c.args.world.now c.const_step.new.world c.args.e f c.args.values.items c.in-Const.constant c.const_step.result c.form.ensures.stored long own c.const_step.ensures.goes

pub returns-in-SetAttr-clause-goes : goal.returns-in-SetAttr-clause-goes
returns-in-SetAttr-clause-goes c =
    let w = c.args.world.now in
    let f = c.form.result.now in
    let own = subst (λ o. IsOwn o f) c.in-SetAttr.is c.in_ok-constant.ensures in
    let long = ap (λ o. length (operands_at o)) (sym c.form.ensures.stored) ∙ c.requires.all in
    let goes = rw c.deref-in-SetAttr.ensures.value at c.set_attr_step-step.ensures.goes in
    own-takes w w c.args.e f c.args.values.items (λ t u. set_attr_say u (t.text c.in-SetAttr.name.0) (two_of c.args.values.items)) c.set_attr_step-step.result c.form.ensures.stored long (says-set c.in-SetAttr.name c.args.values.items f own) (goes w)

pub returns-in-SetAttr-clause-safe : goal.returns-in-SetAttr-clause-safe
returns-in-SetAttr-clause-safe c =
    let w = c.args.world.now in
    let f = c.form.result.now in
    let own = subst (λ o. IsOwn o f) c.in-SetAttr.is c.in_ok-constant.ensures in
    let safe = rw c.deref-in-SetAttr.ensures.value at c.set_attr_step-step.ensures.safe in
    (grows-itself w, safe w (set-name w c.in-SetAttr.name f own c.form.ensures.holds) c.requires.values)

pub returns-in-Attr-clause-goes : goal.returns-in-Attr-clause-goes
returns-in-Attr-clause-goes c =
    let w = c.args.world.now in
    let f = c.form.result.now in
    let vs = c.args.values.items in
    let own = subst (λ o. IsOwn o f) c.in-Attr.is c.in_ok-constant.ensures in
    let long = ap (λ o. length (operands_at o)) (sym c.form.ensures.stored) ∙ c.requires.all in
    let is = rw c.deref-in-Attr.ensures.value at c.one_of-in-Attr.ensures in
    let goes = rw is at c.attr_step-step.ensures.goes in
    own-takes w w c.args.e f vs (λ t u. attr_say u (t.text c.in-Attr.name.0) (one_of vs)) c.attr_step-step.result c.form.ensures.stored long (says-attr c.in-Attr.name vs f own) (goes w)

pub returns-in-Attr-clause-safe : goal.returns-in-Attr-clause-safe
returns-in-Attr-clause-safe c =
    let w = c.args.world.now in
    let f = c.form.result.now in
    let own = subst (λ o. IsOwn o f) c.in-Attr.is c.in_ok-constant.ensures in
    let is = rw c.deref-in-Attr.ensures.value at c.one_of-in-Attr.ensures in
    let safe = rw is at c.attr_step-step.ensures.safe in
    (grows-itself w, safe w (attr-name w c.in-Attr.name f own c.form.ensures.holds) (one-holds w c.args.values.items c.requires.values))

pub call_step-requires-clause-func : goal.call_step-requires-clause-func
call_step-requires-clause-func c =
    let f = c.form.result.now in
    let own = subst (λ o. IsOwn o f) c.in-Call.is c.in_ok-constant.ensures in
    call-func c.args.world.now c.in-Call.func f own c.form.ensures.holds

pub call_step-requires-clause-value : goal.call_step-requires-clause-value
call_step-requires-clause-value c =
    let is = rw c.deref-in-Call.ensures.value at c.one_of-in-Call.ensures in
    rw is (one-holds c.args.world.now c.args.values.items c.requires.values)

pub returns-in-Call-clause-goes : goal.returns-in-Call-clause-goes
returns-in-Call-clause-goes c =
    let w = c.args.world.now in
    let e = c.args.e in
    let f = c.form.result.now in
    let vs = c.args.values.items in
    let g = c.in-Call.func in
    let own = subst (λ o. IsOwn o f) c.in-Call.is c.in_ok-constant.ensures in
    let long = ap (λ o. length (operands_at o)) (sym c.form.ensures.stored) ∙ c.requires.all in
    let is = rw c.deref-in-Call.ensures.value at c.one_of-in-Call.ensures in
    let goes = rw is at c.call_step.ensures.goes in
    let row = λ (t : Reading) (u : PlainWorld). called_say u (t.tree g.0) (args_of (t.tree e.0)) (keywords_of (t.tree e.0)) (one_of vs) in
    ok-map (λ step. Goes row w w step) (λ step. Continues e vs w w step) c.call_step.result (λ step k. own-takes-read w w e f vs row step c.form.ensures.stored long (λ t r u more.
    says-call g vs f own t u more
    ∙ ap (λ x. called_say u (t.tree g.0) (args_of x) (keywords_of x) (one_of vs) more) (sym (r.trees e.0 f c.form.ensures.stored))) k) goes

pub returns-in-Raise-clause-goes : goal.returns-in-Raise-clause-goes
returns-in-Raise-clause-goes c =
    let w = c.args.world.now in
    let f = c.form.result.now in
    let vs = c.args.values.items in
    let kind = c.in-Raise.kind in
    let own = subst (λ o. IsOwn o f) c.in-Raise.is c.in_ok-constant.ensures in
    let long = ap (λ o. length (operands_at o)) (sym c.form.ensures.stored) ∙ c.requires.all in
    own-closes w w c.args.e f vs (λ t u. raise_say u kind) c.raise_step.result c.form.ensures.stored long (says-raise kind vs f own) (c.raise_step.ensures.goes w)

pub returns-in-Raise-clause-safe : goal.returns-in-Raise-clause-safe
returns-in-Raise-clause-safe c =
    let w = c.args.world.now in
    (grows-itself w, c.raise_step.ensures.safe w)

pub op_step-requires : goal.op_step-requires
op_step-requires c = rw c.deref-in-Op.ensures.value c.requires.values

pub returns-in-Op-clause-goes : goal.returns-in-Op-clause-goes
returns-in-Op-clause-goes c =
    let w = c.args.world.now in
    let new = c.op_step.new.world in
    let f = c.form.result.now in
    let vs = c.args.values.items in
    let word = c.in-Op.word in
    let own = subst (λ o. IsOwn o f) c.in-Op.is c.in_ok-constant.ensures in
    let long = ap (λ o. length (operands_at o)) (sym c.form.ensures.stored) ∙ c.requires.all in
    let row = λ (t : Reading) (u : PlainWorld). op_say u word vs in
    let goes : IfOk c.op_step.result (λ step. Goes row w new step) = rw (← c.deref-in-Op.ensures.value) c.op_step.ensures.goes in
    ok-map (λ step. Goes row w new step) (λ step. Continues c.args.e vs w new step) c.op_step.result (λ step k. own-takes w new c.args.e f vs row step c.form.ensures.stored long (says-op word vs f own) k) goes

pub returns-in-Tuple-clause-goes : goal.returns-in-Tuple-clause-goes
returns-in-Tuple-clause-goes c =
    let f = c.form.result.now in
    let own = subst (λ o. IsOwn o f) c.in-Tuple.is c.in_ok-constant.ensures in
    let long = ap (λ o. length (operands_at o)) (sym c.form.ensures.stored) ∙ c.requires.all in
    own-tuple c.args.world.now c.tuple_step.new.world c.args.e f c.args.values.items c.tuple_step.result c.form.ensures.stored long own c.tuple_step.ensures.goes

pub returns-in-List-clause-goes : goal.returns-in-List-clause-goes
returns-in-List-clause-goes c =
    let f = c.form.result.now in
    let own = subst (λ o. IsOwn o f) c.in-List.is c.in_ok-constant.ensures in
    let long = ap (λ o. length (operands_at o)) (sym c.form.ensures.stored) ∙ c.requires.all in
    own-list c.args.world.now c.list_step.new.world c.args.e f c.args.values.items c.list_step.result c.form.ensures.stored long own c.list_step.ensures.goes

pub next_key-requires-clause-found : goal.next_key-requires-clause-found
next_key-requires-clause-found c = rw c.new.ensures.items (no-pairs _)

pub returns-in-Dict-clause-goes : goal.returns-in-Dict-clause-goes
returns-in-Dict-clause-goes c =
    let f = c.form.result.now in
    let own = subst (λ o. IsOwn o f) c.in-Dict.is c.in_ok-constant.ensures in
    let long = ap (λ o. length (operands_at o)) (sym c.form.ensures.stored) ∙ c.requires.all in
    own-dict c.args.world.now c.next_key.new.world c.args.e f c.args.values.items c.new.result c.next_key.result c.form.ensures.stored long own c.new.ensures.items c.next_key.ensures.goes

pub returns-in-DelAttr-clause-goes : goal.returns-in-DelAttr-clause-goes
returns-in-DelAttr-clause-goes c =
    let w = c.args.world.now in
    let f = c.form.result.now in
    let vs = c.args.values.items in
    let own = subst (λ o. IsOwn o f) c.in-DelAttr.is c.in_ok-constant.ensures in
    let long = ap (λ o. length (operands_at o)) (sym c.form.ensures.stored) ∙ c.requires.all in
    let is = rw c.deref-in-DelAttr.ensures.value at c.one_of-in-DelAttr.ensures in
    let goes = rw is at c.del_attr_step-step.ensures.goes in
    own-takes w w c.args.e f vs (λ t u. del_attr_say u (t.text c.in-DelAttr.name.0) (one_of vs)) c.del_attr_step-step.result c.form.ensures.stored long (says-del c.in-DelAttr.name vs f own) (goes w)

pub returns-in-DelAttr-clause-safe : goal.returns-in-DelAttr-clause-safe
returns-in-DelAttr-clause-safe c =
    let w = c.args.world.now in
    let f = c.form.result.now in
    let own = subst (λ o. IsOwn o f) c.in-DelAttr.is c.in_ok-constant.ensures in
    let is = rw c.deref-in-DelAttr.ensures.value at c.one_of-in-DelAttr.ensures in
    let safe = rw is at c.del_attr_step-step.ensures.safe in
    (grows-itself w, safe w (del-name w c.in-DelAttr.name f own c.form.ensures.holds) (one-holds w c.args.values.items c.requires.values))

pub returns-in-If-clause-goes : goal.returns-in-If-clause-goes
returns-in-If-clause-goes c =
    let w = c.args.world.now in
    let f = c.form.result.now in
    let vs = c.args.values.items in
    let a = c.in-If.chosen in
    let b = c.in-If.other in
    let own = subst (λ o. IsOwn o f) c.in-If.is c.in_ok-constant.ensures in
    let long = ap (λ o. length (operands_at o)) (sym c.form.ensures.stored) ∙ c.requires.all in
    let is = rw c.deref-in-If.ensures.value at c.one_of-in-If.ensures in
    let goes = rw is at c.if_step-step.ensures.goes in
    own-takes w w c.args.e f vs (λ t u. if_say u (t.tree a.0) (t.tree b.0) (one_of vs)) c.if_step-step.result c.form.ensures.stored long (says-if a b vs f own) (goes w)

pub returns-in-If-clause-safe : goal.returns-in-If-clause-safe
returns-in-If-clause-safe c =
    let w = c.args.world.now in
    let f = c.form.result.now in
    let own = subst (λ o. IsOwn o f) c.in-If.is c.in_ok-constant.ensures in
    let is = rw c.deref-in-If.ensures.value at c.one_of-in-If.ensures in
    let safe = rw is at c.if_step-step.ensures.safe in
    let both = if-branches w c.in-If.chosen c.in-If.other f own c.form.ensures.holds in
    (grows-itself w, safe w both.0 both.1 (one-holds w c.args.values.items c.requires.values))

pub seq_step-step-requires : goal.seq_step-step-requires
seq_step-step-requires c = rw c.deref-in-Seq.ensures.value c.requires.values

pub returns-in-Seq-clause-goes : goal.returns-in-Seq-clause-goes
returns-in-Seq-clause-goes c =
    let w = c.args.world.now in
    let f = c.form.result.now in
    let vs = c.args.values.items in
    let own = subst (λ o. IsOwn o f) c.in-Seq.is c.in_ok-constant.ensures in
    let long = ap (λ o. length (operands_at o)) (sym c.form.ensures.stored) ∙ c.requires.all in
    let goes = rw c.deref-in-Seq.ensures.value at c.seq_step-step.ensures.goes in
    own-closes w w c.args.e f vs (λ t u. seq_say u vs) c.seq_step-step.result c.form.ensures.stored long (says-seq vs f own) goes

pub returns-in-Seq-clause-safe : goal.returns-in-Seq-clause-safe
returns-in-Seq-clause-safe c =
    let w = c.args.world.now in
    (grows-itself w, c.seq_step-step.ensures.safe)

pub class_step-requires-clause-name : goal.class_step-requires-clause-name
class_step-requires-clause-name c =
    let f = c.form.result.now in
    let own = subst (λ o. IsOwn o f) c.in-Class.is c.in_ok-constant.ensures in
    (class-names c.args.world.now c.in-Class.name c.in-Class.bases c.in-Class.keys c.in-Class.names f own c.form.ensures.holds).0

pub class_step-requires-clause-keys : goal.class_step-requires-clause-keys
class_step-requires-clause-keys c =
    let f = c.form.result.now in
    let own = subst (λ o. IsOwn o f) c.in-Class.is c.in_ok-constant.ensures in
    rw c.deref-in-Class.ensures.value (class-names c.args.world.now c.in-Class.name c.in-Class.bases c.in-Class.keys c.in-Class.names f own c.form.ensures.holds).1

pub class_step-requires-clause-names : goal.class_step-requires-clause-names
class_step-requires-clause-names c =
    let f = c.form.result.now in
    let own = subst (λ o. IsOwn o f) c.in-Class.is c.in_ok-constant.ensures in
    rw c.deref-in-Class-2.ensures.value (class-names c.args.world.now c.in-Class.name c.in-Class.bases c.in-Class.keys c.in-Class.names f own c.form.ensures.holds).2

pub class_step-requires-clause-all : goal.class_step-requires-clause-all
class_step-requires-clause-all c =
    let f = c.form.result.now in
    let own = subst (λ o. IsOwn o f) c.in-Class.is c.in_ok-constant.ensures in
    let long = ap (λ o. length (operands_at o)) (sym c.form.ensures.stored) ∙ c.requires.all in
    rw (c.deref-in-Class-3.ensures.value, c.deref-in-Class-2.ensures.value, c.deref-in-Class.ensures.value) (sym long ∙ class-long c.in-Class.name c.in-Class.bases c.in-Class.keys c.in-Class.names f own)

pub returns-in-Class-clause-goes : goal.returns-in-Class-clause-goes
returns-in-Class-clause-goes c =
    let w = c.args.world.now in
    let new = c.class_step.new.world in
    let f = c.form.result.now in
    let vs = c.args.values.items in
    let x = c.in-Class.name in
    let n = c.in-Class.bases in
    let ks = c.in-Class.keys in
    let xs = c.in-Class.names in
    let own = subst (λ o. IsOwn o f) c.in-Class.is c.in_ok-constant.ensures in
    let long = ap (λ o. length (operands_at o)) (sym c.form.ensures.stored) ∙ c.requires.all in
    let row = λ (t : Reading) (u : PlainWorld). class_say u (t.text x.0) n (map (spelled t) ks.items) (map (spelled t) xs.items) vs in
    let goes : IfOk c.class_step.result (λ step. Goes row w new step) =
    rw (← c.deref-in-Class.ensures.value, ← c.deref-in-Class-2.ensures.value, ← c.deref-in-Class-3.ensures.value) c.class_step.ensures.goes in
    ok-map (λ step. Goes row w new step) (λ step. Continues c.args.e vs w new step) c.class_step.result (λ step k. own-takes w new c.args.e f vs row step c.form.ensures.stored long (says-class x n ks xs vs f own) k) goes

pub bind_step-requires-clause-value : goal.bind_step-requires-clause-value
bind_step-requires-clause-value c =
    let is = rw c.deref.ensures.value at c.one_of.ensures in
    rw is (one-holds c.args.world.now c.args.values.items c.requires.values)

pub returns-in-Func-clause-goes : goal.returns-in-Func-clause-goes
returns-in-Func-clause-goes c =
    let f = c.form.result.now in
    let own = subst (λ o. IsOwn o f) c.in-Func.is c.in_ok-constant.ensures in
    let long = ap (λ o. length (operands_at o)) (sym c.form.ensures.stored) ∙ c.requires.all in
    own-func c.args.world.now c.func_step.new.world c.args.e f c.args.values.items c.in-Func.name c.in-Func.params c.in-Func.rest c.in-Func.body c.func_step.result c.form.ensures.stored long own c.func_step.ensures.goes
