use Rattle.class_world.proofs.Lemmas.{Some, IfOk, OnOk, [], refl, sym, subst, arith, length, best_of, BuiltIn, TypeType, has_dict, single_class, refused_single, says_so, refusal, found, only-best, made_single, keeps-more, Held, the_view, IsClass, IsOf, Holds, of_binding, of_each, opened, opened-one, grows-seen, room, ok-map, class-there, no-names, IsMade, sound-after, plain-after, number-after, not-after, reads-after, grows-after, class-after, node-after, of-after}
use Rattle.std.proofs.Common.{◌≡◌, ◌∷◌, ◌++◌, ◌||◌}
use Rattle.class_world.proofs.world.World.add_single.Goals as goal

pub single_with_node-made-requires-clause-base : goal.single_with_node-made-requires-clause-base
single_with_node-made-requires-clause-base c = class-there _ _ (opened-one (the_view c.self.inside) c.args.self.now (IsClass c.args.base.0) c.self.view_is c.requires.base)

pub single_with_node-made-requires-clause-fresh : goal.single_with_node-made-requires-clause-fresh
single_with_node-made-requires-clause-fresh c = room (the_view c.self.inside) c.self.inside.classes c.self.invariant.classes

pub single_with_node-made-requires-clause-metaclass : goal.single_with_node-made-requires-clause-metaclass
unfolding Holds
single_with_node-made-requires-clause-metaclass c = opened-one (the_view c.self.inside) c.args.self.now (IsClass c.args.metaclass.0) c.self.view_is c.requires.metaclass

pub invariant_of-self : goal.invariant_of-self
invariant_of-self c =
    let w = the_view c.self.inside in
    let k = single_class c.args.name.now (length w.nodes) c.args.base.0 c.args.attrs c.args.flags.0 c.args.brings in
    let made : IsMade w c.args.metaclass k c.single_with_node-made.new.classes c.single_with_node-made.new.nodes.items c.single_with_node-made.new.log c.single_with_node-made.result = record { added = c.single_with_node-made.ensures.added; node = c.single_with_node-made.ensures.node; number = c.single_with_node-made.ensures.number; err = c.single_with_node-made.ensures.err; no_node = c.single_with_node-made.ensures.no_node; unlogged = c.single_with_node-made.ensures.unlogged } in
    let meta = opened-one w c.args.self.now (IsClass c.args.metaclass.0) c.self.view_is c.requires.metaclass in
    let of = opened-one w c.args.self.now (IsOf c.args.metaclass.0 TypeType) c.self.view_is c.requires.of_classes in
    let attrs = opened w c.args.self.now (of_each of_binding c.args.attrs) c.self.view_is c.requires.attrs in
    sound-after w c.args.metaclass k refl c.single_with_node-made.new.classes c.single_with_node-made.new.nodes.items c.single_with_node-made.new.log (keeps-more w.log c.single_with_node-made.new.log _ c.single_with_node-made.result c.single_with_node-made.ensures.logged c.single_with_node-made.ensures.unlogged) c.single_with_node-made.result made (c.single_with_node-made.ensures.law c.self.invariant.logged) c.self.invariant c.requires.unmarked (no-names w) meta of attrs

pub returns-clause-made : goal.returns-clause-made
returns-clause-made c =
    let w = the_view c.self.inside in
    let k = single_class c.args.name.now (length w.nodes) c.args.base.0 c.args.attrs c.args.flags.0 c.args.brings in
    let made : IsMade w c.args.metaclass k c.single_with_node-made.new.classes c.single_with_node-made.new.nodes.items c.single_with_node-made.new.log c.single_with_node-made.result = record { added = c.single_with_node-made.ensures.added; node = c.single_with_node-made.ensures.node; number = c.single_with_node-made.ensures.number; err = c.single_with_node-made.ensures.err; no_node = c.single_with_node-made.ensures.no_node; unlogged = c.single_with_node-made.ensures.unlogged } in
    plain-after w c.args.metaclass k refl c.single_with_node-made.new.classes c.single_with_node-made.new.nodes.items c.single_with_node-made.new.log (keeps-more w.log c.single_with_node-made.new.log _ c.single_with_node-made.result c.single_with_node-made.ensures.logged c.single_with_node-made.ensures.unlogged) c.args.self.now c.self.view_is c.single_with_node-made.result made c.self.invariant

pub returns-clause-number : goal.returns-clause-number
returns-clause-number c =
    let w = the_view c.self.inside in
    let k = single_class c.args.name.now (length w.nodes) c.args.base.0 c.args.attrs c.args.flags.0 c.args.brings in
    let made : IsMade w c.args.metaclass k c.single_with_node-made.new.classes c.single_with_node-made.new.nodes.items c.single_with_node-made.new.log c.single_with_node-made.result = record { added = c.single_with_node-made.ensures.added; node = c.single_with_node-made.ensures.node; number = c.single_with_node-made.ensures.number; err = c.single_with_node-made.ensures.err; no_node = c.single_with_node-made.ensures.no_node; unlogged = c.single_with_node-made.ensures.unlogged } in
    number-after w c.args.metaclass k refl c.single_with_node-made.new.classes c.single_with_node-made.new.nodes.items c.single_with_node-made.new.log (keeps-more w.log c.single_with_node-made.new.log _ c.single_with_node-made.result c.single_with_node-made.ensures.logged c.single_with_node-made.ensures.unlogged) c.args.self.now c.self.view_is c.single_with_node-made.result made

pub returns-clause-err : goal.returns-clause-err
returns-clause-err c =
    let w = the_view c.self.inside in
    let k = single_class c.args.name.now (length w.nodes) c.args.base.0 c.args.attrs c.args.flags.0 c.args.brings in
    let made : IsMade w c.args.metaclass k c.single_with_node-made.new.classes c.single_with_node-made.new.nodes.items c.single_with_node-made.new.log c.single_with_node-made.result = record { added = c.single_with_node-made.ensures.added; node = c.single_with_node-made.ensures.node; number = c.single_with_node-made.ensures.number; err = c.single_with_node-made.ensures.err; no_node = c.single_with_node-made.ensures.no_node; unlogged = c.single_with_node-made.ensures.unlogged } in
    not-after w c.args.metaclass k refl c.single_with_node-made.new.classes c.single_with_node-made.new.nodes.items c.single_with_node-made.new.log (keeps-more w.log c.single_with_node-made.new.log _ c.single_with_node-made.result c.single_with_node-made.ensures.logged c.single_with_node-made.ensures.unlogged) c.args.self.now c.self.view_is c.single_with_node-made.result made

pub returns-clause-reads : goal.returns-clause-reads
returns-clause-reads c =
    let w = the_view c.self.inside in
    let k = single_class c.args.name.now (length w.nodes) c.args.base.0 c.args.attrs c.args.flags.0 c.args.brings in
    let made : IsMade w c.args.metaclass k c.single_with_node-made.new.classes c.single_with_node-made.new.nodes.items c.single_with_node-made.new.log c.single_with_node-made.result = record { added = c.single_with_node-made.ensures.added; node = c.single_with_node-made.ensures.node; number = c.single_with_node-made.ensures.number; err = c.single_with_node-made.ensures.err; no_node = c.single_with_node-made.ensures.no_node; unlogged = c.single_with_node-made.ensures.unlogged } in
    reads-after w c.args.metaclass k refl c.single_with_node-made.new.classes c.single_with_node-made.new.nodes.items c.single_with_node-made.new.log (keeps-more w.log c.single_with_node-made.new.log _ c.single_with_node-made.result c.single_with_node-made.ensures.logged c.single_with_node-made.ensures.unlogged) c.args.self.now c.self.view_is

pub returns-clause-grows : goal.returns-clause-grows
returns-clause-grows c =
    let w = the_view c.self.inside in
    let k = single_class c.args.name.now (length w.nodes) c.args.base.0 c.args.attrs c.args.flags.0 c.args.brings in
    let made : IsMade w c.args.metaclass k c.single_with_node-made.new.classes c.single_with_node-made.new.nodes.items c.single_with_node-made.new.log c.single_with_node-made.result = record { added = c.single_with_node-made.ensures.added; node = c.single_with_node-made.ensures.node; number = c.single_with_node-made.ensures.number; err = c.single_with_node-made.ensures.err; no_node = c.single_with_node-made.ensures.no_node; unlogged = c.single_with_node-made.ensures.unlogged } in
    grows-seen w _ _ c.self.view_is (grows-after w c.args.metaclass k refl c.single_with_node-made.new.classes c.single_with_node-made.new.nodes.items c.single_with_node-made.new.log (keeps-more w.log c.single_with_node-made.new.log _ c.single_with_node-made.result c.single_with_node-made.ensures.logged c.single_with_node-made.ensures.unlogged) c.single_with_node-made.result made)

pub returns-clause-class : goal.returns-clause-class
returns-clause-class c =
    let w = the_view c.self.inside in
    let k = single_class c.args.name.now (length w.nodes) c.args.base.0 c.args.attrs c.args.flags.0 c.args.brings in
    let made : IsMade w c.args.metaclass k c.single_with_node-made.new.classes c.single_with_node-made.new.nodes.items c.single_with_node-made.new.log c.single_with_node-made.result = record { added = c.single_with_node-made.ensures.added; node = c.single_with_node-made.ensures.node; number = c.single_with_node-made.ensures.number; err = c.single_with_node-made.ensures.err; no_node = c.single_with_node-made.ensures.no_node; unlogged = c.single_with_node-made.ensures.unlogged } in
    class-after w c.args.metaclass k refl c.single_with_node-made.new.classes c.single_with_node-made.new.nodes.items c.single_with_node-made.new.log (keeps-more w.log c.single_with_node-made.new.log _ c.single_with_node-made.result c.single_with_node-made.ensures.logged c.single_with_node-made.ensures.unlogged) c.single_with_node-made.result made c.self.invariant

pub returns-clause-node : goal.returns-clause-node
returns-clause-node c =
    let w = the_view c.self.inside in
    let k = single_class c.args.name.now (length w.nodes) c.args.base.0 c.args.attrs c.args.flags.0 c.args.brings in
    let made : IsMade w c.args.metaclass k c.single_with_node-made.new.classes c.single_with_node-made.new.nodes.items c.single_with_node-made.new.log c.single_with_node-made.result = record { added = c.single_with_node-made.ensures.added; node = c.single_with_node-made.ensures.node; number = c.single_with_node-made.ensures.number; err = c.single_with_node-made.ensures.err; no_node = c.single_with_node-made.ensures.no_node; unlogged = c.single_with_node-made.ensures.unlogged } in
    node-after w c.args.metaclass k refl c.single_with_node-made.new.classes c.single_with_node-made.new.nodes.items c.single_with_node-made.new.log (keeps-more w.log c.single_with_node-made.new.log _ c.single_with_node-made.result c.single_with_node-made.ensures.logged c.single_with_node-made.ensures.unlogged) c.single_with_node-made.result made

pub returns-clause-refused : goal.returns-clause-refused
returns-clause-refused c =
    subst (λ (w : Held). refusal c.single_with_node-made.result ≡ refused_single w.classes c.args.base.0) c.self.view_is c.single_with_node-made.ensures.refused

pub returns-clause-of : goal.returns-clause-of
returns-clause-of c =
    let w = the_view c.self.inside in
    let k = single_class c.args.name.now (length w.nodes) c.args.base.0 c.args.attrs c.args.flags.0 c.args.brings in
    let made : IsMade w c.args.metaclass k c.single_with_node-made.new.classes c.single_with_node-made.new.nodes.items c.single_with_node-made.new.log c.single_with_node-made.result = record { added = c.single_with_node-made.ensures.added; node = c.single_with_node-made.ensures.node; number = c.single_with_node-made.ensures.number; err = c.single_with_node-made.ensures.err; no_node = c.single_with_node-made.ensures.no_node; unlogged = c.single_with_node-made.ensures.unlogged } in
    let d = c.args.base.0 in
    let base = class-there w d (opened-one w c.args.self.now (IsClass d) c.self.view_is c.requires.base) in
    let best : best_of w.classes (d ∷ []) ≡ Some d = only-best w.classes (found w.classes c.sound.ensures.sound) (c.args.base ∷ []) (omega arith) (base, tt) (omega arith) in
    let new : Held = record w { nodes = c.single_with_node-made.new.nodes.items; classes = c.single_with_node-made.new.classes; log = c.single_with_node-made.new.log } in
    subst (λ (v : Held). IfOk c.single_with_node-made.result (λ x. (b : BuiltIn) → Holds v (IsOf d b) → Holds new (IsOf x.0 b))) c.self.view_is
    (ok-map _ _ c.single_with_node-made.result (λ x h b. h d b best) (of-after w c.args.metaclass k refl c.single_with_node-made.new.classes c.single_with_node-made.new.nodes.items c.single_with_node-made.new.log (keeps-more w.log c.single_with_node-made.new.log _ c.single_with_node-made.result c.single_with_node-made.ensures.logged c.single_with_node-made.ensures.unlogged) c.single_with_node-made.result made c.self.invariant c.sound.ensures.sound c.sound-2.ensures.sound (base, tt)))

pub single_with_node-made-requires-clause-dict : goal.single_with_node-made-requires-clause-dict
single_with_node-made-requires-clause-dict c =
    subst (λ (w : Held). says_so c.args.flags.0 ≡ (c.args.brings || has_dict w.classes c.args.base.0)) (sym c.self.view_is) c.requires.dict

pub returns-clause-logged : goal.returns-clause-logged
returns-clause-logged c = subst (λ (w : Held). OnOk c.single_with_node-made.result (c.single_with_node-made.new.log ≡ w.log ++ made_single (length w.nodes) c.args.name.now c.args.base.0 c.args.attrs c.args.given.0 ∷ [])) c.self.view_is c.single_with_node-made.ensures.logged
