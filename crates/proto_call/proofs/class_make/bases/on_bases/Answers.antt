use Rattle.proto_call.proofs.Lemmas.{◌∙◌, ap, sym, refl, string_bytes, option_map, Ends, fault, numbers, refused_layout, plain, bindings, all-grow, on_bases, with_namespace, goes-from, makes-from, bases-read, bases-refused}
use Rattle.proto_call.proofs.class_make.bases.on_bases.Goals as goal

pub with_namespace-requires-clause-kw : goal.with_namespace-requires-clause-kw
with_namespace-requires-clause-kw c = all-grow _ _ c.in_ok-attrs.ensures.grows _ c.requires.kw

pub with_namespace-requires-clause-bases : goal.with_namespace-requires-clause-bases
with_namespace-requires-clause-bases c = all-grow _ _ c.in_ok-attrs.ensures.grows _ c.requires.bases

pub with_namespace-requires-clause-layout : goal.with_namespace-requires-clause-layout
with_namespace-requires-clause-layout c = λ t r.
    ap (λ u. refused_layout u.classes (numbers c.args.bases.items)) (c.in_ok-attrs.ensures.same t)
    ∙ ap (λ bs. refused_layout (plain t c.args.world.now).classes (numbers bs)) (sym c.deref.ensures.value) ∙ c.in-None.ensures t

pub returns-in-Some-clause-goes : goal.returns-in-Some-clause-goes
returns-in-Some-clause-goes c =
    let w = c.args.world.now in
    let m = c.args.meta.0 in
    let n = string_bytes c.args.body.name in
    let b = numbers c.args.bases.items in
    rw c.raise.ensures (
    makes-from c.args.kw.items (λ t u. on_bases u m n b c.args.body.entries.items (bindings t c.args.kw.items)) (λ t u. Ends u (fault c.in-Some.cause)) w w w _ (λ t r.
    (r, bases-refused (plain t w) m n b c.args.body.entries.items (bindings t c.args.kw.items) c.in-Some.cause (ap (λ bs. refused_layout (plain t w).classes (numbers bs)) (sym c.deref.ensures.value) ∙ c.in-Some.ensures t)))
    (λ meta args t r. (r, (refl, refl))))

pub returns-clause-goes : goal.returns-clause-goes
returns-clause-goes c =
    let e = c.in_ok-attrs.ensures in
    let old = c.args.world.now in
    let m = c.args.meta.0 in
    let n = string_bytes c.args.body.name in
    let b = numbers c.args.bases.items in
    goes-from c.args.kw.items (λ t u. on_bases u m n b c.args.body.entries.items (bindings t c.args.kw.items)) (λ t u. with_namespace u m n b (option_map (λ a. bindings t a) c.in_ok-attrs.attrs) (bindings t c.args.kw.items)) old c.namespace.new.world c.with_namespace.new.world c.with_namespace.result (λ t r.
    (e.reads t r, bases-read (plain t old) (plain t c.namespace.new.world) m n b c.args.body.entries.items c.deref-2.result.now (bindings t c.args.kw.items) (option_map (λ a. bindings t a) c.in_ok-attrs.attrs) (e.same t) (ap (λ bs. refused_layout (plain t old).classes (numbers bs)) (sym c.deref.ensures.value) ∙ c.in-None.ensures t) (e.named t r) c.deref-2.ensures.value))
    c.with_namespace.ensures.goes
