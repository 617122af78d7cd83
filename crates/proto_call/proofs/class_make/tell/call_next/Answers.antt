use Rattle.proto_call.proofs.Lemmas.{[], Some, ap, sym, drop, ◌∙◌, slice_get, place_of, AText, ref, next_node, with_node, bindings, plain, IsNode, of_binding, of_each, all-first, all-grow, all-rest, each-get, call_hooks, init_subclass, of_telling, ask-call, call_row, drop-none}
use Rattle.std.proofs.Common.{◌≡◌, ◌+◌, ◌∷◌}
use Rattle.proto_call.proofs.ClassMake.Telling.{drop-got, takes-same}
use Rattle.proto_call.proofs.class_make.tell.call_next.Goals as goal

pub init_subclass-requires-clause-kw : goal.init_subclass-requires-clause-kw
init_subclass-requires-clause-kw c =
    let p = c.args.telling in
    all-first c.args.world.now (of_each of_binding p.kw.items) (of_each of_binding p.values.items) c.requires.1

pub returns-in-None-clause-goes : goal.returns-in-None-clause-goes
returns-in-None-clause-goes c =
    let p = c.args.telling in
    let e : drop p.next p.values.items ≡ [] = drop-none p.values.items p.next (ap (λ vs. slice_get vs p.next) (sym c.deref.ensures.value) ∙ c.in-None.ensures) in
    takes-same (λ t u. init_subclass u (ref p.class.0) (bindings t p.kw.items)) (call_row (ref p.class.0) p.kw.items (drop p.next p.values.items)) c.args.world.now c.init_subclass.new.world c.init_subclass.result (λ t j u. call_hooks u (ref p.class.0) (bindings t (sym e j)) (init_subclass u (ref p.class.0) (bindings t p.kw.items))) c.init_subclass.ensures.goes

pub spelling-requires : goal.spelling-requires
spelling-requires c =
    let p = c.args.telling in
    let e : slice_get p.values.items p.next ≡ Some c.in-Some.entry = ap (λ vs. slice_get vs p.next) (sym c.deref.ensures.value) ∙ c.in-Some.ensures in
    (each-get c.args.world.now of_binding p.values.items p.next c.in-Some.entry e (all-rest c.args.world.now (of_each of_binding p.kw.items) (of_each of_binding p.values.items) c.requires.1)).0

pub returns-clause-goes : goal.returns-clause-goes
unfolding place_of
returns-clause-goes c =
    let p = c.args.telling in
    let old = c.args.world.now in
    let new = c.make_node.new.self in
    let made = c.in_ok-text-2.ensures in
    let e : drop p.next p.values.items ≡ c.in-Some.entry ∷ drop (p.next + 1) p.values.items = drop-got p.values.items p.next c.in-Some.entry (ap (λ vs. slice_get vs p.next) (sym c.deref.ensures.value) ∙ c.in-Some.ensures) in
    ask-call old new c.in-Some.entry.1 c.class_node.result c.in_ok-text-2.text c.in_ok-args.args c.new.result (record { class = p.class; kw = p.kw; values = p.values; next = p.next + 1 }) c.in-Some.entry.0 (drop p.next p.values.items) e (λ t r.
    (made.reads t r, made.made t ∙ (λ i. with_node (plain t old) (c.built_in-home.ensures.place i) (AText (c.in_ok-text.ensures t (made.reads t r) i))))) (λ t. made.number t ∙ ap (next_node (plain t old)) c.built_in-home.ensures.place) c.in_ok-args.ensures.items c.new.ensures.items c.class_node.ensures.reads

pub returns-clause-safe : goal.returns-clause-safe
returns-clause-safe c =
    let p = c.args.telling in
    let old = c.args.world.now in
    let new = c.make_node.new.self in
    let made = c.in_ok-text-2.ensures in
    let e : slice_get p.values.items p.next ≡ Some c.in-Some.entry = ap (λ vs. slice_get vs p.next) (sym c.deref.ensures.value) ∙ c.in-Some.ensures in
    let hook = (each-get old of_binding p.values.items p.next c.in-Some.entry e (all-rest old (of_each of_binding p.kw.items) (of_each of_binding p.values.items) c.requires.1)).1.0 in
    rw c.new.ensures.items (made.grows, (made.grows.still (IsNode c.in-Some.entry.1) hook, (c.in_ok-args.ensures.holds new c.class_node.ensures.node made.node, all-grow old new made.grows (of_telling p) c.requires)))
