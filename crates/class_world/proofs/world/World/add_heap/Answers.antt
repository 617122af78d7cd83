use Rattle.class_world.proofs.Lemmas.{ℕ, Some, IfOk, OnOk, [], refl, ap, subst, ◌∙◌, length, on_ok_weaker, best_of, BuiltIn, TypeType, any_has_dict, heap_class, slots_bring, numbers, table_keys, slot_names, refused_bases, refusal, WithMemory, with_new_class, made_by_script, keeps-more, Held, the_view, of_slots, plain, IsClass, IsOf, Holds, of_binding, of_class_ref, of_each, opened, opened-one, grows-seen, room, bases-there, heap-unmarked, members-named, class-read, IsMade, sound-after, plain-after, number-after, not-after, reads-after, grows-after, class-after, node-after, of-after}
use Rattle.std.proofs.Common.{◌≡◌, ◌∷◌, ◌++◌, ◌||◌}
use Rattle.class_world.proofs.world.World.add_heap.Goals as goal

pub heap_with_node-made-requires-clause-bases : goal.heap_with_node-made-requires-clause-bases
heap_with_node-made-requires-clause-bases c =
    let w = the_view c.self.inside in
    bases-there w c.args.bases.items (opened w c.args.self.now (of_each of_class_ref c.args.bases.items) c.self.view_is c.requires.bases)

pub heap_with_node-made-requires-clause-fresh : goal.heap_with_node-made-requires-clause-fresh
heap_with_node-made-requires-clause-fresh c = room (the_view c.self.inside) c.self.inside.classes c.self.invariant.classes

pub heap_with_node-made-requires-clause-metaclass : goal.heap_with_node-made-requires-clause-metaclass
unfolding Holds
heap_with_node-made-requires-clause-metaclass c = opened-one (the_view c.self.inside) c.args.self.now (IsClass c.args.metaclass.0) c.self.view_is c.requires.metaclass

pub invariant_of-self : goal.invariant_of-self
invariant_of-self c =
    let w = the_view c.self.inside in
    let k = heap_class table_keys w.classes c.args.name.now (length w.nodes) (numbers c.args.bases.items) c.args.attrs (slot_names c.args.slots) in
    let made : IsMade w c.args.metaclass k c.heap_with_node-made.new.classes c.heap_with_node-made.new.nodes.items c.heap_with_node-made.new.log c.heap_with_node-made.result = record { added = c.heap_with_node-made.ensures.added; node = c.heap_with_node-made.ensures.node; number = c.heap_with_node-made.ensures.number; err = c.heap_with_node-made.ensures.err; no_node = c.heap_with_node-made.ensures.no_node; unlogged = c.heap_with_node-made.ensures.unlogged } in
    let meta = opened-one w c.args.self.now (IsClass c.args.metaclass.0) c.self.view_is c.requires.metaclass in
    let of = opened-one w c.args.self.now (IsOf c.args.metaclass.0 TypeType) c.self.view_is c.requires.of_classes in
    let attrs = opened w c.args.self.now (of_each of_binding c.args.attrs) c.self.view_is c.requires.attrs in
    sound-after w c.args.metaclass k refl c.heap_with_node-made.new.classes c.heap_with_node-made.new.nodes.items c.heap_with_node-made.new.log (keeps-more w.log c.heap_with_node-made.new.log _ c.heap_with_node-made.result c.heap_with_node-made.ensures.logged c.heap_with_node-made.ensures.unlogged) c.heap_with_node-made.result made (c.heap_with_node-made.ensures.law c.self.invariant.logged) c.self.invariant (heap-unmarked (slots_bring table_keys (slot_names c.args.slots) || any_has_dict w.classes (numbers c.args.bases.items))) (members-named w c.args.slots (opened w c.args.self.now (of_slots c.args.slots) c.self.view_is c.requires.slots)) meta of attrs

pub returns-clause-made : goal.returns-clause-made
returns-clause-made c =
    let w = the_view c.self.inside in
    let k = heap_class table_keys w.classes c.args.name.now (length w.nodes) (numbers c.args.bases.items) c.args.attrs (slot_names c.args.slots) in
    let made : IsMade w c.args.metaclass k c.heap_with_node-made.new.classes c.heap_with_node-made.new.nodes.items c.heap_with_node-made.new.log c.heap_with_node-made.result = record { added = c.heap_with_node-made.ensures.added; node = c.heap_with_node-made.ensures.node; number = c.heap_with_node-made.ensures.number; err = c.heap_with_node-made.ensures.err; no_node = c.heap_with_node-made.ensures.no_node; unlogged = c.heap_with_node-made.ensures.unlogged } in
    on_ok_weaker c.heap_with_node-made.result (λ h t r. h t ∙ ap (with_new_class (plain t c.args.self.now) c.args.metaclass.0) (class-read w c.args.self.now c.self.view_is c.self.invariant t r c.args.name.now (length w.nodes) (length (plain t c.args.self.now).nodes) (numbers c.args.bases.items) c.args.attrs c.args.slots))
    (plain-after w c.args.metaclass k refl c.heap_with_node-made.new.classes c.heap_with_node-made.new.nodes.items c.heap_with_node-made.new.log (keeps-more w.log c.heap_with_node-made.new.log _ c.heap_with_node-made.result c.heap_with_node-made.ensures.logged c.heap_with_node-made.ensures.unlogged) c.args.self.now c.self.view_is c.heap_with_node-made.result made c.self.invariant)

pub returns-clause-number : goal.returns-clause-number
returns-clause-number c =
    let w = the_view c.self.inside in
    let k = heap_class table_keys w.classes c.args.name.now (length w.nodes) (numbers c.args.bases.items) c.args.attrs (slot_names c.args.slots) in
    let made : IsMade w c.args.metaclass k c.heap_with_node-made.new.classes c.heap_with_node-made.new.nodes.items c.heap_with_node-made.new.log c.heap_with_node-made.result = record { added = c.heap_with_node-made.ensures.added; node = c.heap_with_node-made.ensures.node; number = c.heap_with_node-made.ensures.number; err = c.heap_with_node-made.ensures.err; no_node = c.heap_with_node-made.ensures.no_node; unlogged = c.heap_with_node-made.ensures.unlogged } in
    number-after w c.args.metaclass k refl c.heap_with_node-made.new.classes c.heap_with_node-made.new.nodes.items c.heap_with_node-made.new.log (keeps-more w.log c.heap_with_node-made.new.log _ c.heap_with_node-made.result c.heap_with_node-made.ensures.logged c.heap_with_node-made.ensures.unlogged) c.args.self.now c.self.view_is c.heap_with_node-made.result made

pub returns-clause-err : goal.returns-clause-err
returns-clause-err c =
    let w = the_view c.self.inside in
    let k = heap_class table_keys w.classes c.args.name.now (length w.nodes) (numbers c.args.bases.items) c.args.attrs (slot_names c.args.slots) in
    let made : IsMade w c.args.metaclass k c.heap_with_node-made.new.classes c.heap_with_node-made.new.nodes.items c.heap_with_node-made.new.log c.heap_with_node-made.result = record { added = c.heap_with_node-made.ensures.added; node = c.heap_with_node-made.ensures.node; number = c.heap_with_node-made.ensures.number; err = c.heap_with_node-made.ensures.err; no_node = c.heap_with_node-made.ensures.no_node; unlogged = c.heap_with_node-made.ensures.unlogged } in
    not-after w c.args.metaclass k refl c.heap_with_node-made.new.classes c.heap_with_node-made.new.nodes.items c.heap_with_node-made.new.log (keeps-more w.log c.heap_with_node-made.new.log _ c.heap_with_node-made.result c.heap_with_node-made.ensures.logged c.heap_with_node-made.ensures.unlogged) c.args.self.now c.self.view_is c.heap_with_node-made.result made

pub returns-clause-reads : goal.returns-clause-reads
returns-clause-reads c =
    let w = the_view c.self.inside in
    let k = heap_class table_keys w.classes c.args.name.now (length w.nodes) (numbers c.args.bases.items) c.args.attrs (slot_names c.args.slots) in
    let made : IsMade w c.args.metaclass k c.heap_with_node-made.new.classes c.heap_with_node-made.new.nodes.items c.heap_with_node-made.new.log c.heap_with_node-made.result = record { added = c.heap_with_node-made.ensures.added; node = c.heap_with_node-made.ensures.node; number = c.heap_with_node-made.ensures.number; err = c.heap_with_node-made.ensures.err; no_node = c.heap_with_node-made.ensures.no_node; unlogged = c.heap_with_node-made.ensures.unlogged } in
    reads-after w c.args.metaclass k refl c.heap_with_node-made.new.classes c.heap_with_node-made.new.nodes.items c.heap_with_node-made.new.log (keeps-more w.log c.heap_with_node-made.new.log _ c.heap_with_node-made.result c.heap_with_node-made.ensures.logged c.heap_with_node-made.ensures.unlogged) c.args.self.now c.self.view_is

pub returns-clause-grows : goal.returns-clause-grows
returns-clause-grows c =
    let w = the_view c.self.inside in
    let k = heap_class table_keys w.classes c.args.name.now (length w.nodes) (numbers c.args.bases.items) c.args.attrs (slot_names c.args.slots) in
    let made : IsMade w c.args.metaclass k c.heap_with_node-made.new.classes c.heap_with_node-made.new.nodes.items c.heap_with_node-made.new.log c.heap_with_node-made.result = record { added = c.heap_with_node-made.ensures.added; node = c.heap_with_node-made.ensures.node; number = c.heap_with_node-made.ensures.number; err = c.heap_with_node-made.ensures.err; no_node = c.heap_with_node-made.ensures.no_node; unlogged = c.heap_with_node-made.ensures.unlogged } in
    grows-seen w _ _ c.self.view_is (grows-after w c.args.metaclass k refl c.heap_with_node-made.new.classes c.heap_with_node-made.new.nodes.items c.heap_with_node-made.new.log (keeps-more w.log c.heap_with_node-made.new.log _ c.heap_with_node-made.result c.heap_with_node-made.ensures.logged c.heap_with_node-made.ensures.unlogged) c.heap_with_node-made.result made)

pub returns-clause-class : goal.returns-clause-class
returns-clause-class c =
    let w = the_view c.self.inside in
    let k = heap_class table_keys w.classes c.args.name.now (length w.nodes) (numbers c.args.bases.items) c.args.attrs (slot_names c.args.slots) in
    let made : IsMade w c.args.metaclass k c.heap_with_node-made.new.classes c.heap_with_node-made.new.nodes.items c.heap_with_node-made.new.log c.heap_with_node-made.result = record { added = c.heap_with_node-made.ensures.added; node = c.heap_with_node-made.ensures.node; number = c.heap_with_node-made.ensures.number; err = c.heap_with_node-made.ensures.err; no_node = c.heap_with_node-made.ensures.no_node; unlogged = c.heap_with_node-made.ensures.unlogged } in
    class-after w c.args.metaclass k refl c.heap_with_node-made.new.classes c.heap_with_node-made.new.nodes.items c.heap_with_node-made.new.log (keeps-more w.log c.heap_with_node-made.new.log _ c.heap_with_node-made.result c.heap_with_node-made.ensures.logged c.heap_with_node-made.ensures.unlogged) c.heap_with_node-made.result made c.self.invariant

pub returns-clause-node : goal.returns-clause-node
returns-clause-node c =
    let w = the_view c.self.inside in
    let k = heap_class table_keys w.classes c.args.name.now (length w.nodes) (numbers c.args.bases.items) c.args.attrs (slot_names c.args.slots) in
    let made : IsMade w c.args.metaclass k c.heap_with_node-made.new.classes c.heap_with_node-made.new.nodes.items c.heap_with_node-made.new.log c.heap_with_node-made.result = record { added = c.heap_with_node-made.ensures.added; node = c.heap_with_node-made.ensures.node; number = c.heap_with_node-made.ensures.number; err = c.heap_with_node-made.ensures.err; no_node = c.heap_with_node-made.ensures.no_node; unlogged = c.heap_with_node-made.ensures.unlogged } in
    node-after w c.args.metaclass k refl c.heap_with_node-made.new.classes c.heap_with_node-made.new.nodes.items c.heap_with_node-made.new.log (keeps-more w.log c.heap_with_node-made.new.log _ c.heap_with_node-made.result c.heap_with_node-made.ensures.logged c.heap_with_node-made.ensures.unlogged) c.heap_with_node-made.result made

pub returns-clause-refused : goal.returns-clause-refused
returns-clause-refused c =
    subst (λ (w : Held). WithMemory c.heap_with_node-made.result (refusal c.heap_with_node-made.result ≡ refused_bases w.classes (numbers c.args.bases.items))) c.self.view_is c.heap_with_node-made.ensures.refused

pub returns-clause-of : goal.returns-clause-of
returns-clause-of c =
    let w = the_view c.self.inside in
    let k = heap_class table_keys w.classes c.args.name.now (length w.nodes) (numbers c.args.bases.items) c.args.attrs (slot_names c.args.slots) in
    let made : IsMade w c.args.metaclass k c.heap_with_node-made.new.classes c.heap_with_node-made.new.nodes.items c.heap_with_node-made.new.log c.heap_with_node-made.result = record { added = c.heap_with_node-made.ensures.added; node = c.heap_with_node-made.ensures.node; number = c.heap_with_node-made.ensures.number; err = c.heap_with_node-made.ensures.err; no_node = c.heap_with_node-made.ensures.no_node; unlogged = c.heap_with_node-made.ensures.unlogged } in
    let there = bases-there w c.args.bases.items (opened w c.args.self.now (of_each of_class_ref c.args.bases.items) c.self.view_is c.requires.bases) in
    let new : Held = record w { nodes = c.heap_with_node-made.new.nodes.items; classes = c.heap_with_node-made.new.classes; log = c.heap_with_node-made.new.log } in
    subst (λ (v : Held). IfOk c.heap_with_node-made.result (λ x. (d : ℕ) (b : BuiltIn) → best_of v.classes (numbers c.args.bases.items) ≡ Some d → Holds v (IsOf d b) → Holds new (IsOf x.0 b))) c.self.view_is
    (of-after w c.args.metaclass k refl c.heap_with_node-made.new.classes c.heap_with_node-made.new.nodes.items c.heap_with_node-made.new.log (keeps-more w.log c.heap_with_node-made.new.log _ c.heap_with_node-made.result c.heap_with_node-made.ensures.logged c.heap_with_node-made.ensures.unlogged) c.heap_with_node-made.result made c.self.invariant c.sound.ensures.sound c.sound-2.ensures.sound there)

pub returns-clause-logged : goal.returns-clause-logged
returns-clause-logged c = subst (λ (w : Held). OnOk c.heap_with_node-made.result (c.heap_with_node-made.new.log ≡ w.log ++ made_by_script w.classes (length w.nodes) c.args.name.now (numbers c.args.bases.items) c.args.attrs (slot_names c.args.slots) ∷ [])) c.self.view_is c.heap_with_node-made.ensures.logged
