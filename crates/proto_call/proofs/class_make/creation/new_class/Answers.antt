use Rattle.proto_call.proofs.Lemmas.{◌∙◌, [], ap, refl, sym, length, map, None, Some, string_bytes, length-map, numbers, Ends, Made, fault, noting, ref, text_keys, with_new_class, heap_class, slot_texts, plain, bindings, spelled, grows-on, all-grow, made_in, refusal, tell, with_own_members, goes-from, makes-from, made-new, made-refused, refused-next, values-are, values-read, made-own, made-goes}
use Rattle.proto_call.proofs.class_make.creation.new_class.Goals as goal

pub returns-in-Err-Refused-clause-goes : goal.returns-in-Err-Refused-clause-goes
returns-in-Err-Refused-clause-goes c =
    let e = c.in-Err-Refused.ensures in
    let cause = c.in-Err-Refused.cause in
    let old = c.args.world.now in
    let new = c.new_heap_slots.new.self in
    let p = c.args.plan in
    let n = string_bytes p.name in
    let b = numbers p.bases.items in
    rw c.raise.ensures (
    makes-from c.args.kw.items (λ t u. made_in p.meta.0 n b (slot_texts t c.args.slots) (bindings t c.args.kw.items) (u, bindings t p.attrs)) (λ t u. Ends u (fault cause)) old new new _ (λ t r.
    let q = e.reads t r in
    let why = rw c.in-Err-Refused.field-0-is at (e.refused t q) in
    (q, ap (λ u. Ends u (fault cause)) (ap (plain t) e.err) ∙ made-refused (plain t old) cause (refusal (plain t old) b (bindings t p.attrs)) p.meta.0 n b (slot_texts t c.args.slots) (bindings t c.args.kw.items) (bindings t p.attrs) (refused-next (plain t old) b (bindings t p.attrs) (Some cause) (c.requires.layout t q) why)))
    (λ meta args t r. (r, (refl, refl))))

pub define_functions-requires-clause-values : goal.define_functions-requires-clause-values
define_functions-requires-clause-values c =
    values-are c.new_heap_slots.new.self c.args.plan.attrs c.deref.result.now (all-grow _ _ c.in-Ok.ensures.grows _ c.requires.attrs) (c.deref.ensures.value ∙ c.in_ok-values.ensures)

pub returns-clause-goes : goal.returns-clause-goes
returns-clause-goes c =
    let e = c.in-Ok.ensures in
    let m = c.in_ok-add_own_members-in-Ok.ensures in
    let old = c.args.world.now in
    let mid = c.add_own_members.new.world in
    let p = c.args.plan in
    let n = string_bytes p.name in
    let b = numbers p.bases.items in
    let class = c.in-Ok.class.0 in
    goes-from c.args.kw.items (λ t u. made_in p.meta.0 n b (slot_texts t c.args.slots) (bindings t c.args.kw.items) (u, bindings t p.attrs)) (λ t u. noting (Made (ref class)) (tell u (ref class) (bindings t c.args.kw.items) [])) old mid c.tell.new.world c.tell.result (λ t r.
    let s = c.define_functions.ensures.reads t (m.reads t r) in
    let q = e.reads t s in
    let bs = bindings t p.attrs in
    let u = plain t old in
    let made = e.made t q ∙ (λ i. with_new_class u p.meta.0 (heap_class text_keys u.classes (c.as_str.ensures.value i) (length u.nodes) b bs (slot_texts t c.args.slots))) in
    let names = ap (map (spelled t)) c.deref-in-Ok.ensures.value ∙ c.in_ok-members.ensures.members t q in
    (q, made-new u (plain t c.new_heap_slots.new.self) (plain t c.define_functions.new.world) (plain t mid) (refusal u b bs) p.meta.0 n b (slot_texts t c.args.slots) (bindings t c.args.kw.items) bs class c.deref.result.now (refused-next u b bs None (c.requires.layout t q) (e.refused t q)) made (c.define_functions.ensures.set t) (m.set t r ∙ ap (λ xs. with_own_members class xs (plain t c.define_functions.new.world)) names) (c.deref.ensures.value ∙ c.in_ok-values.ensures ∙ sym (values-read t p.attrs)) (e.number t)))
    (made-goes c.args.kw.items (ref class) mid c.tell.new.world c.tell.result c.tell.ensures.goes)

pub tell-requires-clause-kw : goal.tell-requires-clause-kw
tell-requires-clause-kw c =
    all-grow _ _ (grows-on _ _ _ c.in-Ok.ensures.grows (grows-on _ _ _ c.define_functions.ensures.grows c.in_ok-add_own_members-in-Ok.ensures.grows)) _ c.requires.kw

pub add_own_members-requires-clause-own : goal.add_own_members-requires-clause-own
add_own_members-requires-clause-own c = λ t r.
    let e = c.in-Ok.ensures in
    let p = c.args.plan in
    let u = plain t c.args.world.now in
    let q = e.reads t (c.define_functions.ensures.reads t r) in
    let k = heap_class text_keys u.classes c.as_str.result.now (length u.nodes) (numbers p.bases.items) (bindings t p.attrs) (slot_texts t c.args.slots) in
    made-own u (c.sound.ensures t) (plain t c.new_heap_slots.new.self) (plain t c.define_functions.new.world) p.meta.0 c.in-Ok.class.0 k c.deref.result.now (e.made t q) (c.define_functions.ensures.set t) (e.number t) refl
    ∙ ap (λ xs. length xs) (sym (c.in_ok-members.ensures.members t q))
    ∙ length-map c.in_ok-members.members.items (spelled t)
    ∙ sym (ap (λ xs. length xs) c.deref-in-Ok.ensures.value)
