use Rattle.proto_call.proofs.Lemmas.{◌∙◌, ap, string_bytes, numbers, refused_layout, slot_texts, of_slots, bindings, plain, all-grow, grows-on, dicted, made_in, with_slots, goes-from, dicted-classes}
use Rattle.proto_call.proofs.class_make.creation.with_slots.Goals as goal

pub returns-clause-goes : goal.returns-clause-goes
returns-clause-goes c =
    let e = c.in_ok-attrs.ensures in
    let old = c.args.world.now in
    let mid = c.dicted.new.world in
    let p = c.args.plan in
    let n = string_bytes p.name in
    let b = numbers p.bases.items in
    goes-from c.args.kw.items (λ t u. with_slots p.meta.0 n b (slot_texts t c.args.slots) (bindings t c.args.kw.items) (u, bindings t p.attrs)) (λ t u. made_in p.meta.0 n b (slot_texts t c.args.slots) (bindings t c.args.kw.items) (u, bindings t c.in_ok-attrs.attrs)) old mid c.new_class.new.world c.new_class.result (λ t r.
    (e.reads t r, ap (made_in p.meta.0 n b (slot_texts t c.args.slots) (bindings t c.args.kw.items)) (e.becomes t r ∙ ap (λ bs. dicted (numbers bs) (slot_texts t c.args.slots) (plain t old, bindings t p.attrs)) c.deref.ensures.value)))
    c.new_class.ensures.goes

pub new_class-requires-clause-bases : goal.new_class-requires-clause-bases
new_class-requires-clause-bases c = all-grow _ _ c.in_ok-attrs.ensures.grows _ c.requires.bases

pub new_class-requires-clause-slots : goal.new_class-requires-clause-slots
new_class-requires-clause-slots c = all-grow _ _ c.in_ok-attrs.ensures.grows (of_slots c.args.slots) c.requires.slots

pub new_class-requires-clause-kw : goal.new_class-requires-clause-kw
new_class-requires-clause-kw c = all-grow _ _ c.in_ok-attrs.ensures.grows _ c.requires.kw

pub new_class-requires-clause-layout : goal.new_class-requires-clause-layout
new_class-requires-clause-layout c = λ t r.
    let e = c.in_ok-attrs.ensures in
    let old = plain t c.args.world.now in
    let b = numbers c.args.plan.bases.items in
    ap (λ s. refused_layout s.0.classes b) (e.becomes t r)
    ∙ ap (λ ks. refused_layout ks b) (dicted-classes _ (slot_texts t c.args.slots) (old, bindings t c.args.plan.attrs))
    ∙ c.requires.layout t (e.reads t r)

pub returns-clause-safe : goal.returns-clause-safe
returns-clause-safe c =
    let safe = c.new_class.ensures.safe in (
      grows-on c.args.world.now c.dicted.new.world c.new_class.new.world c.in_ok-attrs.ensures.grows safe.0,
      safe.1,
    )
