use Rattle.world_text.proofs.Lemmas.{ap, String, Global, PyStrInterned, FuncParts, CallParts, ClassParts, Expr, ExprRef, adds-itself, adds-on, tree-as, name-stays, names-stay, tree-stays, trees-stay, pairs-stay, entries-stay, stored, no-tree, no-pair, no-entry, trees-next, pairs-next, entries-next, call-form, class-form, attr-form, bind-form, del_attr-form, dict-form, func-form, if-form, list-form, op-form, seq-form, set_attr-form, tuple-form}
use Rattle.world_text.proofs.expressions.+store.Goals as goal

pub store-add_form-requires : goal.store-add_form-requires
store-add_form-requires t c = c.in_ok-form.ensures.form.there

pub store-returns-clause-adds : goal.store-returns-clause-adds
store-returns-clause-adds t c =
    adds-on c.form_of.ensures.adds (record { same = c.add_form.ensures.same; reads = c.add_form.ensures.reads; grows = c.add_form.ensures.grows })

pub store-returns-clause-tree : goal.store-returns-clause-tree
store-returns-clause-tree t c =
    stored c.form_of.new.world c.add_form.new.self c.in_ok-form.form _ c.add_form.result c.add_form.ensures.added c.add_form.ensures.holds c.add_form.ensures.reads c.in_ok-form.ensures.form

pub store_each-loop-expr-init : goal.store_each-loop-expr-init
store_each-loop-expr-init t c = record { adds = adds-itself _; trees = rw c.in_ok-stored.ensures.items (no-tree _) }

pub store_each-loop-expr-preserved : goal.store_each-loop-expr-preserved
store_each-loop-expr-preserved t c = record {
  adds = adds-on c.loop-expr.invariant.adds c.store.ensures.adds;
  trees = rw c.in_ok-push.ensures.items (trees-next c.deref-expr-items.result.now c.loop-expr.expr-index c.expr-item.result c.loop-expr-test.true c.expr-item.is (trees-stay c.store.ensures.adds c.loop-expr.invariant.trees) c.in_ok-store.ensures.tree);
}

pub store_pairs-loop-key-init : goal.store_pairs-loop-key-init
store_pairs-loop-key-init t c = record { adds = adds-itself _; pairs = rw c.in_ok-stored.ensures.items (no-pair _) }

pub store_pairs-loop-key-preserved : goal.store_pairs-loop-key-preserved
store_pairs-loop-key-preserved t c =
    let key = c.store.ensures.adds in
    let value = c.store-in-loop-key.ensures.adds in
    record {
      adds = adds-on c.loop-key.invariant.adds (adds-on key value);
      pairs = rw c.in_ok-push.ensures.items (pairs-next c.deref-key-items.result.now c.loop-key.key-index c.loop-key-item.result c.loop-key-test.true c.loop-key-item.is (pairs-stay value (pairs-stay key c.loop-key.invariant.pairs)) (tree-stays value c.in_ok-key.ensures.tree) c.in_ok-value.ensures.tree);
    }

pub store_entries-loop-name-init : goal.store_entries-loop-name-init
store_entries-loop-name-init t c = record { adds = adds-itself _; entries = rw c.in_ok-stored.ensures.items (no-entry _) }

pub store_entries-loop-name-preserved : goal.store_entries-loop-name-preserved
store_entries-loop-name-preserved t c =
    let name = c.name_of.ensures.adds in
    let value = c.store.ensures.adds in
    record {
      adds = adds-on c.loop-name.invariant.adds (adds-on name value);
      entries = rw c.in_ok-push.ensures.items (entries-next c.deref-name-items.result.now c.loop-name.name-index c.loop-name-item.result c.loop-name-test.true c.loop-name-item.is (entries-stay value (entries-stay name c.loop-name.invariant.entries)) (name-stays value c.in_ok-name.ensures.name) c.in_ok-value.ensures.tree);
    }

pub form_of-returns-in_ok-boxed-in-Call-clause-form : goal.form_of-returns-in_ok-boxed-in-Call-clause-form
form_of-returns-in_ok-boxed-in-Call-clause-form t c =
    let b = c.in_ok-boxed-in-Call in
    let k = c.in-Call in
    let args = c.store_each-in-Call.ensures.adds in
    let keywords = c.store_entries.ensures.adds in
    let parts : CallParts PyStrInterned ExprRef = record { function = c.in_ok-function-in-Call.function; args = c.in_ok-args-in-Call.args; keywords = c.in_ok-keywords-in-Call.keywords } in
    call-form b.boxed parts k.call b.ensures.ok k.is c.deref-in-Call.ensures c.deref-in-Call-2.ensures c.deref-in-Call-3.ensures (tree-stays keywords (tree-stays args c.in_ok-function-in-Call.ensures.tree)) (trees-stay keywords c.in_ok-args-in-Call.ensures.trees) c.in_ok-keywords-in-Call.ensures.entries

pub form_of-returns-in_ok-boxed-in-Class-clause-form : goal.form_of-returns-in_ok-boxed-in-Class-clause-form
form_of-returns-in_ok-boxed-in-Class-clause-form t c =
    let b = c.in_ok-boxed-in-Class in
    let k = c.in-Class in
    let bases = c.store_each-in-Class.ensures.adds in
    let keywords = c.store_entries-in-Class.ensures.adds in
    let entries = c.store_entries-in-Class-2.ensures.adds in
    let name = name-stays entries (name-stays keywords (name-stays bases c.in_ok-name-in-Class.ensures.name)) in
    let read = trees-stay entries (trees-stay keywords c.in_ok-bases-in-Class.ensures.trees) in
    let parts : ClassParts PyStrInterned ExprRef = record { name = c.in_ok-name-in-Class.name; bases = c.in_ok-bases-in-Class.bases; keywords = c.in_ok-keywords-in-Class.keywords; entries = c.in_ok-entries-in-Class.entries } in
    class-form b.boxed parts k.class b.ensures.ok k.is c.deref-in-Class.ensures c.deref-in-Class-2.ensures c.deref-in-Class-3.ensures c.deref-in-Class-4.ensures name read (entries-stay entries c.in_ok-keywords-in-Class.ensures.entries) c.in_ok-entries-in-Class.ensures.entries

pub form_of-returns-in_ok-value-in-Bind-clause-form : goal.form_of-returns-in_ok-value-in-Bind-clause-form
form_of-returns-in_ok-value-in-Bind-clause-form t c =
    let k = c.in-Bind in
    bind-form k.name k.value k.is (name-stays c.store.ensures.adds c.in_ok-name-in-Bind.ensures.name) (tree-as c.in_ok-value-in-Bind.ensures.tree c.deref.ensures)

pub form_of-returns-in_ok-items-in-Tuple-clause-form : goal.form_of-returns-in_ok-items-in-Tuple-clause-form
form_of-returns-in_ok-items-in-Tuple-clause-form t c =
    let k = c.in-Tuple in
    tuple-form k.items k.is c.in_ok-items-in-Tuple.ensures.trees

pub form_of-returns-in_ok-items-in-List-clause-form : goal.form_of-returns-in_ok-items-in-List-clause-form
form_of-returns-in_ok-items-in-List-clause-form t c =
    let k = c.in-List in
    list-form k.items k.is c.in_ok-items-in-List.ensures.trees

pub form_of-returns-in_ok-pairs-in-Dict-clause-form : goal.form_of-returns-in_ok-pairs-in-Dict-clause-form
form_of-returns-in_ok-pairs-in-Dict-clause-form t c =
    let k = c.in-Dict in
    dict-form k.pairs k.is c.in_ok-pairs-in-Dict.ensures.pairs

pub form_of-returns-in_ok-boxed-in-Func-clause-form : goal.form_of-returns-in_ok-boxed-in-Func-clause-form
form_of-returns-in_ok-boxed-in-Func-clause-form t c =
    let b = c.in_ok-boxed-in-Func in
    let k = c.in-Func in
    let parts : FuncParts PyStrInterned ExprRef = record { name = c.in_ok-name-in-Func.name; params = c.in_ok-params-in-Func.params; rest = c.deref-in-Func-4.result.now.rest; body = c.in_ok-body-in-Func.body } in
    func-form b.boxed parts k.func b.ensures.ok k.is c.deref-in-Func.ensures c.deref-in-Func-2.ensures c.deref-in-Func-3.ensures (ap (λ (v : FuncParts (String Global) Expr). v.rest) c.deref-in-Func-4.ensures) (name-stays c.store-in-Func.ensures.adds (name-stays c.names_of.ensures.adds c.in_ok-name-in-Func.ensures.name)) (names-stay c.store-in-Func.ensures.adds c.in_ok-params-in-Func.ensures.names) c.in_ok-body-in-Func.ensures.tree

pub form_of-returns-in_ok-name-in-Attr-clause-form : goal.form_of-returns-in_ok-name-in-Attr-clause-form
form_of-returns-in_ok-name-in-Attr-clause-form t c =
    let k = c.in-Attr in
    attr-form k.target k.name k.is (tree-stays c.name_of-in-Attr.ensures.adds (tree-as c.in_ok-target-in-Attr.ensures.tree c.deref-in-Attr.ensures)) c.in_ok-name-in-Attr.ensures.name

pub form_of-returns-in_ok-value-in-SetAttr-clause-form : goal.form_of-returns-in_ok-value-in-SetAttr-clause-form
form_of-returns-in_ok-value-in-SetAttr-clause-form t c =
    let k = c.in-SetAttr in
    set_attr-form c.in_ok-target-in-SetAttr.target c.in_ok-name-in-SetAttr.name c.in_ok-value-in-SetAttr.value k.set k.is c.deref-in-SetAttr.ensures c.deref-in-SetAttr-2.ensures c.deref-in-SetAttr-3.ensures (tree-stays c.store-in-SetAttr-2.ensures.adds (tree-stays c.name_of-in-SetAttr.ensures.adds c.in_ok-target-in-SetAttr.ensures.tree)) (name-stays c.store-in-SetAttr-2.ensures.adds c.in_ok-name-in-SetAttr.ensures.name) c.in_ok-value-in-SetAttr.ensures.tree

pub form_of-returns-in_ok-name-in-DelAttr-clause-form : goal.form_of-returns-in_ok-name-in-DelAttr-clause-form
form_of-returns-in_ok-name-in-DelAttr-clause-form t c =
    let k = c.in-DelAttr in
    del_attr-form k.target k.name k.is (tree-stays c.name_of-in-DelAttr.ensures.adds (tree-as c.in_ok-target-in-DelAttr.ensures.tree c.deref-in-DelAttr.ensures)) c.in_ok-name-in-DelAttr.ensures.name

pub form_of-returns-in_ok-operands-in-Op-clause-form : goal.form_of-returns-in_ok-operands-in-Op-clause-form
form_of-returns-in_ok-operands-in-Op-clause-form t c =
    let k = c.in-Op in
    op-form k.word k.operands k.is c.in_ok-operands-in-Op.ensures.trees

pub form_of-returns-in_ok-otherwise-in-If-clause-form : goal.form_of-returns-in_ok-otherwise-in-If-clause-form
form_of-returns-in_ok-otherwise-in-If-clause-form t c =
    let k = c.in-If in
    if-form k.condition k.then k.otherwise k.is (tree-stays c.store-in-If-3.ensures.adds (tree-stays c.store-in-If-2.ensures.adds (tree-as c.in_ok-condition-in-If.ensures.tree c.deref-in-If.ensures))) (tree-stays c.store-in-If-3.ensures.adds (tree-as c.in_ok-then-in-If.ensures.tree c.deref-in-If-2.ensures)) (tree-as c.in_ok-otherwise-in-If.ensures.tree c.deref-in-If-3.ensures)

pub form_of-returns-in_ok-items-in-Seq-clause-form : goal.form_of-returns-in_ok-items-in-Seq-clause-form
form_of-returns-in_ok-items-in-Seq-clause-form t c =
    let k = c.in-Seq in
    seq-form k.items k.is c.in_ok-items-in-Seq.ensures.trees

-- what each exit has added, step by step
pub form_of-returns-in_err-value-in-Bind-clause-adds : goal.form_of-returns-in_err-value-in-Bind-clause-adds
form_of-returns-in_err-value-in-Bind-clause-adds t c = adds-on c.name_of-in-Bind.ensures.adds c.store.ensures.adds

pub form_of-returns-in_ok-value-in-Bind-clause-adds : goal.form_of-returns-in_ok-value-in-Bind-clause-adds
form_of-returns-in_ok-value-in-Bind-clause-adds t c = adds-on c.name_of-in-Bind.ensures.adds c.store.ensures.adds

pub form_of-returns-in_err-params-in-Func-clause-adds : goal.form_of-returns-in_err-params-in-Func-clause-adds
form_of-returns-in_err-params-in-Func-clause-adds t c = adds-on c.name_of-in-Func.ensures.adds c.names_of.ensures.adds

pub form_of-returns-in_err-body-in-Func-clause-adds : goal.form_of-returns-in_err-body-in-Func-clause-adds
form_of-returns-in_err-body-in-Func-clause-adds t c = adds-on (adds-on c.name_of-in-Func.ensures.adds c.names_of.ensures.adds) c.store-in-Func.ensures.adds

pub form_of-returns-in_err-boxed-in-Func-clause-adds : goal.form_of-returns-in_err-boxed-in-Func-clause-adds
form_of-returns-in_err-boxed-in-Func-clause-adds t c = adds-on (adds-on c.name_of-in-Func.ensures.adds c.names_of.ensures.adds) c.store-in-Func.ensures.adds

pub form_of-returns-in_ok-boxed-in-Func-clause-adds : goal.form_of-returns-in_ok-boxed-in-Func-clause-adds
form_of-returns-in_ok-boxed-in-Func-clause-adds t c = adds-on (adds-on c.name_of-in-Func.ensures.adds c.names_of.ensures.adds) c.store-in-Func.ensures.adds

pub form_of-returns-in_err-name-in-Attr-clause-adds : goal.form_of-returns-in_err-name-in-Attr-clause-adds
form_of-returns-in_err-name-in-Attr-clause-adds t c = adds-on c.store-in-Attr.ensures.adds c.name_of-in-Attr.ensures.adds

pub form_of-returns-in_ok-name-in-Attr-clause-adds : goal.form_of-returns-in_ok-name-in-Attr-clause-adds
form_of-returns-in_ok-name-in-Attr-clause-adds t c = adds-on c.store-in-Attr.ensures.adds c.name_of-in-Attr.ensures.adds

pub form_of-returns-in_err-name-in-SetAttr-clause-adds : goal.form_of-returns-in_err-name-in-SetAttr-clause-adds
form_of-returns-in_err-name-in-SetAttr-clause-adds t c = adds-on c.store-in-SetAttr.ensures.adds c.name_of-in-SetAttr.ensures.adds

pub form_of-returns-in_err-value-in-SetAttr-clause-adds : goal.form_of-returns-in_err-value-in-SetAttr-clause-adds
form_of-returns-in_err-value-in-SetAttr-clause-adds t c = adds-on (adds-on c.store-in-SetAttr.ensures.adds c.name_of-in-SetAttr.ensures.adds) c.store-in-SetAttr-2.ensures.adds

pub form_of-returns-in_ok-value-in-SetAttr-clause-adds : goal.form_of-returns-in_ok-value-in-SetAttr-clause-adds
form_of-returns-in_ok-value-in-SetAttr-clause-adds t c = adds-on (adds-on c.store-in-SetAttr.ensures.adds c.name_of-in-SetAttr.ensures.adds) c.store-in-SetAttr-2.ensures.adds

pub form_of-returns-in_err-name-in-DelAttr-clause-adds : goal.form_of-returns-in_err-name-in-DelAttr-clause-adds
form_of-returns-in_err-name-in-DelAttr-clause-adds t c = adds-on c.store-in-DelAttr.ensures.adds c.name_of-in-DelAttr.ensures.adds

pub form_of-returns-in_ok-name-in-DelAttr-clause-adds : goal.form_of-returns-in_ok-name-in-DelAttr-clause-adds
form_of-returns-in_ok-name-in-DelAttr-clause-adds t c = adds-on c.store-in-DelAttr.ensures.adds c.name_of-in-DelAttr.ensures.adds

pub form_of-returns-in_err-args-in-Call-clause-adds : goal.form_of-returns-in_err-args-in-Call-clause-adds
form_of-returns-in_err-args-in-Call-clause-adds t c = adds-on c.store-in-Call.ensures.adds c.store_each-in-Call.ensures.adds

pub form_of-returns-in_err-keywords-in-Call-clause-adds : goal.form_of-returns-in_err-keywords-in-Call-clause-adds
form_of-returns-in_err-keywords-in-Call-clause-adds t c = adds-on (adds-on c.store-in-Call.ensures.adds c.store_each-in-Call.ensures.adds) c.store_entries.ensures.adds

pub form_of-returns-in_err-boxed-in-Call-clause-adds : goal.form_of-returns-in_err-boxed-in-Call-clause-adds
form_of-returns-in_err-boxed-in-Call-clause-adds t c = adds-on (adds-on c.store-in-Call.ensures.adds c.store_each-in-Call.ensures.adds) c.store_entries.ensures.adds

pub form_of-returns-in_ok-boxed-in-Call-clause-adds : goal.form_of-returns-in_ok-boxed-in-Call-clause-adds
form_of-returns-in_ok-boxed-in-Call-clause-adds t c = adds-on (adds-on c.store-in-Call.ensures.adds c.store_each-in-Call.ensures.adds) c.store_entries.ensures.adds

pub form_of-returns-in_err-then-in-If-clause-adds : goal.form_of-returns-in_err-then-in-If-clause-adds
form_of-returns-in_err-then-in-If-clause-adds t c = adds-on c.store-in-If.ensures.adds c.store-in-If-2.ensures.adds

pub form_of-returns-in_err-otherwise-in-If-clause-adds : goal.form_of-returns-in_err-otherwise-in-If-clause-adds
form_of-returns-in_err-otherwise-in-If-clause-adds t c = adds-on (adds-on c.store-in-If.ensures.adds c.store-in-If-2.ensures.adds) c.store-in-If-3.ensures.adds

pub form_of-returns-in_ok-otherwise-in-If-clause-adds : goal.form_of-returns-in_ok-otherwise-in-If-clause-adds
form_of-returns-in_ok-otherwise-in-If-clause-adds t c = adds-on (adds-on c.store-in-If.ensures.adds c.store-in-If-2.ensures.adds) c.store-in-If-3.ensures.adds

pub form_of-returns-in_err-bases-in-Class-clause-adds : goal.form_of-returns-in_err-bases-in-Class-clause-adds
form_of-returns-in_err-bases-in-Class-clause-adds t c = adds-on c.name_of-in-Class.ensures.adds c.store_each-in-Class.ensures.adds

pub form_of-returns-in_err-keywords-in-Class-clause-adds : goal.form_of-returns-in_err-keywords-in-Class-clause-adds
form_of-returns-in_err-keywords-in-Class-clause-adds t c = adds-on (adds-on c.name_of-in-Class.ensures.adds c.store_each-in-Class.ensures.adds) c.store_entries-in-Class.ensures.adds

pub form_of-returns-in_err-entries-in-Class-clause-adds : goal.form_of-returns-in_err-entries-in-Class-clause-adds
form_of-returns-in_err-entries-in-Class-clause-adds t c = adds-on (adds-on (adds-on c.name_of-in-Class.ensures.adds c.store_each-in-Class.ensures.adds) c.store_entries-in-Class.ensures.adds) c.store_entries-in-Class-2.ensures.adds

pub form_of-returns-in_err-boxed-in-Class-clause-adds : goal.form_of-returns-in_err-boxed-in-Class-clause-adds
form_of-returns-in_err-boxed-in-Class-clause-adds t c = adds-on (adds-on (adds-on c.name_of-in-Class.ensures.adds c.store_each-in-Class.ensures.adds) c.store_entries-in-Class.ensures.adds) c.store_entries-in-Class-2.ensures.adds

pub form_of-returns-in_ok-boxed-in-Class-clause-adds : goal.form_of-returns-in_ok-boxed-in-Class-clause-adds
form_of-returns-in_ok-boxed-in-Class-clause-adds t c = adds-on (adds-on (adds-on c.name_of-in-Class.ensures.adds c.store_each-in-Class.ensures.adds) c.store_entries-in-Class.ensures.adds) c.store_entries-in-Class-2.ensures.adds

pub store_each-returns-in_err-store-clause-adds : goal.store_each-returns-in_err-store-clause-adds
store_each-returns-in_err-store-clause-adds t c = adds-on c.loop-expr.invariant.adds c.store.ensures.adds

pub store_each-returns-in_err-push-clause-adds : goal.store_each-returns-in_err-push-clause-adds
store_each-returns-in_err-push-clause-adds t c = adds-on c.loop-expr.invariant.adds c.store.ensures.adds

pub store_pairs-returns-in_err-key-clause-adds : goal.store_pairs-returns-in_err-key-clause-adds
store_pairs-returns-in_err-key-clause-adds t c = adds-on c.loop-key.invariant.adds c.store.ensures.adds

pub store_pairs-returns-in_err-value-clause-adds : goal.store_pairs-returns-in_err-value-clause-adds
store_pairs-returns-in_err-value-clause-adds t c = adds-on c.loop-key.invariant.adds (adds-on c.store.ensures.adds c.store-in-loop-key.ensures.adds)

pub store_pairs-returns-in_err-push-clause-adds : goal.store_pairs-returns-in_err-push-clause-adds
store_pairs-returns-in_err-push-clause-adds t c = adds-on c.loop-key.invariant.adds (adds-on c.store.ensures.adds c.store-in-loop-key.ensures.adds)

pub store_entries-returns-in_err-name-clause-adds : goal.store_entries-returns-in_err-name-clause-adds
store_entries-returns-in_err-name-clause-adds t c = adds-on c.loop-name.invariant.adds c.name_of.ensures.adds

pub store_entries-returns-in_err-value-clause-adds : goal.store_entries-returns-in_err-value-clause-adds
store_entries-returns-in_err-value-clause-adds t c = adds-on c.loop-name.invariant.adds (adds-on c.name_of.ensures.adds c.store.ensures.adds)

pub store_entries-returns-in_err-push-clause-adds : goal.store_entries-returns-in_err-push-clause-adds
store_entries-returns-in_err-push-clause-adds t c = adds-on c.loop-name.invariant.adds (adds-on c.name_of.ensures.adds c.store.ensures.adds)
