use Rattle.proto_call.proofs.Lemmas.{◌∙◌, None, Some, sym, subst, string_bytes, IfSome, Slots, known_text, numbers, bindings, plain, IsNode, Holds, grows-itself, made, names_in, with_names, with_slots, goes-from, made-slots, has-read, value-there}
use Rattle.proto_call.proofs.class_make.creation.made.Goals as goal

pub returns-in-None-clause-goes : goal.returns-in-None-clause-goes
returns-in-None-clause-goes c =
    let old = c.args.world.now in
    let p = c.args.plan in
    let n = string_bytes p.name in
    let b = numbers p.bases.items in
    goes-from c.args.kw.items (λ t u. made p.meta.0 n b (bindings t c.args.kw.items) (u, bindings t p.attrs)) (λ t u. with_slots p.meta.0 n b None (bindings t c.args.kw.items) (u, bindings t p.attrs)) old old c.with_slots.new.world c.with_slots.result (λ t r.
    (r, made-slots p.meta.0 n b (bindings t c.args.kw.items) (plain t old, bindings t p.attrs) None (has-read t p.attrs c.known-slots.result (known_text Slots) (c.known-slots.ensures.spelled t r) ∙ sym c.get.ensures ∙ c.in-None.is)))
    c.with_slots.ensures.goes

pub returns-in-Some-clause-goes : goal.returns-in-Some-clause-goes
returns-in-Some-clause-goes c =
    let old = c.args.world.now in
    let p = c.args.plan in
    let n = string_bytes p.name in
    let b = numbers p.bases.items in
    let v = c.in-Some.value in
    goes-from c.args.kw.items (λ t u. made p.meta.0 n b (bindings t c.args.kw.items) (u, bindings t p.attrs)) (λ t u. with_names (names_in u v) p.meta.0 n b (bindings t c.args.kw.items) (u, bindings t p.attrs)) old old c.by_names.new.world c.by_names.result (λ t r.
    (r, made-slots p.meta.0 n b (bindings t c.args.kw.items) (plain t old, bindings t p.attrs) (Some v) (has-read t p.attrs c.known-slots.result (known_text Slots) (c.known-slots.ensures.spelled t r) ∙ sym c.get.ensures ∙ c.in-Some.is)))
    c.by_names.ensures.goes

pub by_names-requires-clause-value : goal.by_names-requires-clause-value
by_names-requires-clause-value c =
    let w = c.args.world.now in
    subst (λ o. IfSome o (λ r. Holds w (IsNode r))) c.in-Some.is (value-there w w c.args.plan.attrs c.known-slots.result c.get.result (grows-itself w) c.requires.attrs c.get.ensures)
