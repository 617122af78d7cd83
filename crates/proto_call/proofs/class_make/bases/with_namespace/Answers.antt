use Rattle.proto_call.proofs.Lemmas.{◌∙◌, ap, sym, string_bytes, option_map, numbers, refused_layout, plain, bindings, all-grow, completed, made, with_namespace, goes-from, completed-classes}
use Rattle.proto_call.proofs.class_make.bases.with_namespace.Goals as goal

pub made-requires-clause-kw : goal.made-requires-clause-kw
made-requires-clause-kw c = all-grow _ _ c.in_ok-attrs-in-Some.ensures.grows _ c.requires.kw

pub made-requires-clause-bases : goal.made-requires-clause-bases
made-requires-clause-bases c = all-grow _ _ c.in_ok-attrs-in-Some.ensures.grows _ c.requires.bases

pub made-requires-clause-layout : goal.made-requires-clause-layout
made-requires-clause-layout c = λ t r.
    let e = c.in_ok-attrs-in-Some.ensures in
    let old = plain t c.args.world.now in
    ap (λ s. refused_layout s.0.classes (numbers c.args.bases.items)) (e.becomes t r)
    ∙ ap (λ ks. refused_layout ks (numbers c.args.bases.items)) (completed-classes c.as_str.result.now (old, bindings t c.in-Some.attrs))
    ∙ c.requires.layout t (e.reads t r)

pub returns-in_ok-attrs-in-Some-clause-goes : goal.returns-in_ok-attrs-in-Some-clause-goes
returns-in_ok-attrs-in-Some-clause-goes c =
    let e = c.in_ok-attrs-in-Some.ensures in
    let old = c.args.world.now in
    let m = c.args.meta.0 in
    let n = string_bytes c.args.name in
    let b = numbers c.args.bases.items in
    goes-from c.args.kw.items (λ t u. with_namespace u m n b (option_map (λ a. bindings t a) c.args.attrs) (bindings t c.args.kw.items)) (λ t u. made m n b (bindings t c.args.kw.items) (u, bindings t c.in_ok-attrs-in-Some.attrs)) old c.completed.new.world c.made.new.world c.made.result (λ t r.
    (e.reads t r, ap (made m n b (bindings t c.args.kw.items)) (e.becomes t r) ∙ ap (λ x. made m n b (bindings t c.args.kw.items) (completed x (plain t old, bindings t c.in-Some.attrs))) c.as_str.ensures.value ∙ ap (λ o. with_namespace (plain t old) m n b (option_map (λ a. bindings t a) o) (bindings t c.args.kw.items)) (sym c.in-Some.is)))
    c.made.ensures.goes
