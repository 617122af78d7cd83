use Rattle.proto_call.proofs.Lemmas.{◌∙◌, Some, ap, refl, sym, map, string_bytes, option_map, numbers, refused_layout, SlotsType, Ends, fault, bindings, plain, spelled, all-grow, names_in, with_names, with_slots, goes-from, makes-from}
use Rattle.proto_call.proofs.class_make.creation.by_names.Goals as goal

pub returns-in-None-clause-goes : goal.returns-in-None-clause-goes
returns-in-None-clause-goes c =
    let e = c.in_ok-names.ensures in
    let old = c.args.world.now in
    let new = c.names_in.new.world in
    let p = c.args.plan in
    let n = string_bytes p.name in
    let b = numbers p.bases.items in
    rw c.raise.ensures (
    makes-from c.args.kw.items (λ t u. with_names (names_in u c.args.value) p.meta.0 n b (bindings t c.args.kw.items) (u, bindings t p.attrs)) (λ t u. Ends u (fault SlotsType)) old new new _ (λ t r.
    (e.reads t r, ap (λ u. Ends u (fault SlotsType)) (e.same t) ∙ ap (λ o. with_names o p.meta.0 n b (bindings t c.args.kw.items) (plain t old, bindings t p.attrs)) (sym (e.names t r ∙ ap (option_map (λ ns. map (spelled t) ns.items)) c.in-None.is))))
    (λ meta args t r. (r, (refl, refl))))

pub returns-in-Some-clause-goes : goal.returns-in-Some-clause-goes
returns-in-Some-clause-goes c =
    let e = c.in_ok-names.ensures in
    let old = c.args.world.now in
    let mid = c.names_in.new.world in
    let p = c.args.plan in
    let n = string_bytes p.name in
    let b = numbers p.bases.items in
    goes-from c.args.kw.items (λ t u. with_names (names_in u c.args.value) p.meta.0 n b (bindings t c.args.kw.items) (u, bindings t p.attrs)) (λ t u. with_slots p.meta.0 n b (Some (map (spelled t) c.in-Some.names.items)) (bindings t c.args.kw.items) (u, bindings t p.attrs)) old mid c.with_slots.new.world c.with_slots.result (λ t r.
    (e.reads t r, (λ i. with_slots p.meta.0 n b (Some (map (spelled t) c.in-Some.names.items)) (bindings t c.args.kw.items) (e.same t i, bindings t p.attrs)) ∙ ap (λ o. with_names o p.meta.0 n b (bindings t c.args.kw.items) (plain t old, bindings t p.attrs)) (sym (e.names t r ∙ ap (option_map (λ ns. map (spelled t) ns.items)) c.in-Some.is))))
    c.with_slots.ensures.goes

pub with_slots-requires-clause-bases : goal.with_slots-requires-clause-bases
with_slots-requires-clause-bases c = all-grow _ _ c.in_ok-names.ensures.grows _ c.requires.bases

pub with_slots-requires-clause-attrs : goal.with_slots-requires-clause-attrs
with_slots-requires-clause-attrs c = all-grow _ _ c.in_ok-names.ensures.grows _ c.requires.attrs

pub with_slots-requires-clause-kw : goal.with_slots-requires-clause-kw
with_slots-requires-clause-kw c = all-grow _ _ c.in_ok-names.ensures.grows _ c.requires.kw

pub with_slots-requires-clause-layout : goal.with_slots-requires-clause-layout
with_slots-requires-clause-layout c = λ t r.
    let e = c.in_ok-names.ensures in
    ap (λ u. refused_layout u.classes (numbers c.args.plan.bases.items)) (e.same t) ∙ c.requires.layout t (e.reads t r)
