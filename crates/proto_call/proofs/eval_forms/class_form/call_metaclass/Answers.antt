use Rattle.proto_call.proofs.Lemmas.{[], sym, ap, ◌∙◌, DoCall, ToCall, Asks, is_same_name, AllHold, IsNode, of_binding, of_each, bindings, plain, all-append, all-grow, no-nodes, value-holds, grows-on, class_by, given_metaclass, metaclass, other_keywords, first-holds, given-holds, class-made, asks-takes, cons-nodes, metaclass-read, others-read, others-hold}
use Rattle.py_node.specs.declared.task.Task.TheVariants as task
use Rattle.py_node.specs.declared.task.CallTask.TheVariants as call
use Rattle.proto_call.proofs.eval_forms.class_form.call_metaclass.Goals as goal

pub metaclass-meta-requires-clause-first : goal.metaclass-meta-requires-clause-first
metaclass-meta-requires-clause-first c = rw c.first.ensures (first-holds c.args.world.now c.args.bases.now c.requires.bases)

pub metaclass-meta-requires-clause-given : goal.metaclass-meta-requires-clause-given
metaclass-meta-requires-clause-given c =
    let w = c.args.world.now in
    rw c.get.ensures (given-holds w _ (value-holds w (λ k. is_same_name k c.known-key.result) c.args.keywords.now c.requires.keywords))

pub new_dict-requires : goal.new_dict-requires
new_dict-requires c =
    let first = all-grow c.args.world.now c.new_text.new.world c.in_ok-name.ensures.grows _ c.requires.entries in
    all-grow c.new_text.new.world c.new_tuple.new.world c.in_ok-bases.ensures.grows _ first

pub returns-clause-goes : goal.returns-clause-goes
returns-clause-goes c =
    let w0 = c.args.world.now in
    let w1 = c.new_text.new.world in
    let w2 = c.new_tuple.new.world in
    let w3 = c.new_dict.new.world in
    let name = c.in_ok-name.ensures in
    let bases = c.in_ok-bases.ensures in
    let dict = c.in_ok-dict.ensures in
    let meta = c.metaclass-meta.result in
    asks-takes w0 w3 (λ t u. class_by u (t.text c.args.name.0) c.args.bases.now (bindings t c.args.keywords.now) (bindings t c.args.entries.now)) (task.Call (call.Call meta c.in_ok-args.args c.in_ok-others.others)) (λ t r.
    let r2 = dict.reads t r in
    let r0 = name.reads t (bases.reads t r2) in
    let kw = c.args.keywords.now in
    let key = c.known-key.ensures.spelled t r0 in
    let given = metaclass-read t kw c.known-key.result key ∙ sym c.get.ensures in
    let of_first =
    ap (λ o. metaclass (plain t w0) (given_metaclass (bindings t kw)) o) (sym c.first.ensures)
    ∙ ap (λ o. metaclass (plain t w0) o c.first.result) given
    ∙ c.metaclass-meta.ensures.meta t in
    let list = c.deref.ensures.value ∙ c.in_ok-given.ensures in
    let left = rw list at c.in_ok-others.ensures in
    let others = ap (bindings t) left ∙ others-read t kw c.known-key.result key in (
      r0,
      class-made (plain t w0) (plain t w1) (plain t w2) (plain t w3) (t.text c.args.name.0) c.args.bases.now (bindings t kw) (bindings t c.args.entries.now) meta c.in_ok-name.name c.in_ok-bases.bases c.in_ok-dict.dict of_first (name.made t r0) (name.number t) (bases.made t) (bases.number t) (dict.made t r)
          ∙ ap (λ xs. Asks (plain t w3) [] (ToCall (DoCall meta xs (other_keywords (bindings t kw))))) (sym c.in_ok-args.ensures.items)
          ∙ ap (λ ks. Asks (plain t w3) [] (ToCall (DoCall meta c.in_ok-args.args.items ks))) (sym others),
    ))

pub returns-clause-safe : goal.returns-clause-safe
returns-clause-safe c =
    let w0 = c.args.world.now in
    let w1 = c.new_text.new.world in
    let w2 = c.new_tuple.new.world in
    let w3 = c.new_dict.new.world in
    let name = c.in_ok-name.ensures in
    let bases = c.in_ok-bases.ensures in
    let dict = c.in_ok-dict.ensures in
    let grows = grows-on w0 w1 w3 name.grows (grows-on w1 w2 w3 bases.grows dict.grows) in
    let here = dict.grows.still (IsNode c.in_ok-name.name) (bases.grows.still (IsNode c.in_ok-name.name) name.node) in
    let there = dict.grows.still (IsNode c.in_ok-bases.bases) bases.node in
    let args = cons-nodes w3 c.in_ok-name.name _ here (cons-nodes w3 c.in_ok-bases.bases _ there (cons-nodes w3 c.in_ok-dict.dict [] dict.node (no-nodes w3))) in
    let list = c.deref.ensures.value ∙ c.in_ok-given.ensures in
    let left = rw list at c.in_ok-others.ensures in
    let names : AllHold w0 (of_each of_binding c.in_ok-others.others.items) = rw left (others-hold w0 c.args.keywords.now c.known-key.result c.requires.keywords) in
    let others = all-append w3 (of_each of_binding c.in_ok-others.others.items) [] (all-grow w0 w3 grows _ names) tt in
    rw c.in_ok-args.ensures.items (grows, (grows.still (IsNode c.metaclass-meta.result) c.metaclass-meta.ensures.node, (args, others)))
