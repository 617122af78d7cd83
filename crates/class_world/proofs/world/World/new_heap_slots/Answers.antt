use Rattle.class_world.proofs.Lemmas.{List, Some, refl, sym, ap, subst, ◌∙◌, option_or, PyTypeRef, numbers, refusal, WithMemory, refused_layout, refused_bases, bindings, plain, layout-first, layout-told, layout-none, name-next, no-name}
use Rattle.std.proofs.Common.{◌≡◌}
use Rattle.class_world.proofs.world.World.new_heap_slots.Goals as goal

pub returns-in-Some-clause-early : goal.returns-in-Some-clause-early
returns-in-Some-clause-early c = λ t told f.
    let w = c.args.self.now in
    let e = ap (λ (bs : List PyTypeRef). refused_layout (plain t w).classes (numbers bs)) (sym c.deref.ensures.value) ∙ c.in-Some.ensures t in
    layout-told w t (numbers c.args.bases.items) c.in-Some.cause told e f

pub returns-in-Some-clause-refused : goal.returns-in-Some-clause-refused
returns-in-Some-clause-refused c = λ t r.
    let w = c.args.self.now in
    let e = ap (λ (bs : List PyTypeRef). refused_layout (plain t w).classes (numbers bs)) (sym c.deref.ensures.value) ∙ c.in-Some.ensures t in
    layout-first w t (numbers c.args.bases.items) c.in-Some.cause (bindings t c.args.attrs) e

pub returns-in-Some-name_refusal-clause-early : goal.returns-in-Some-name_refusal-clause-early
returns-in-Some-name_refusal-clause-early c = λ t told f.
    let w = c.args.self.now in
    let e = ap (λ (bs : List PyTypeRef). refused_layout (plain t w).classes (numbers bs)) (sym c.deref.ensures.value) ∙ c.in-None.ensures t in
    layout-none w t (numbers c.args.bases.items) told (refusal c.refuse_name.result) e f

pub returns-in-Some-name_refusal-clause-refused : goal.returns-in-Some-name_refusal-clause-refused
returns-in-Some-name_refusal-clause-refused c = λ t r.
    let w = c.args.self.now in
    let h = subst (λ (bs : List PyTypeRef). WithMemory c.refuse_name.result (refusal c.refuse_name.result ≡ option_or (refused_bases w.classes (numbers bs)) (Some c.in-Some-name_refusal.cause))) c.deref-in-Some-name_refusal.ensures.value c.refuse_name.ensures.why in
    name-next w w refl t (numbers c.args.bases.items) c.refuse_name.result (bindings t c.args.attrs) (Some c.in-Some-name_refusal.cause) (c.in-Some-name_refusal.ensures t r) h

pub returns-in-None-name_refusal-clause-early : goal.returns-in-None-name_refusal-clause-early
returns-in-None-name_refusal-clause-early c = λ t told f.
    let w = c.args.self.now in
    let e = ap (λ (bs : List PyTypeRef). refused_layout (plain t w).classes (numbers bs)) (sym c.deref.ensures.value) ∙ c.in-None.ensures t in
    layout-none w t (numbers c.args.bases.items) told (refusal c.add_heap.result) e f

pub returns-in-None-name_refusal-clause-refused : goal.returns-in-None-name_refusal-clause-refused
returns-in-None-name_refusal-clause-refused c = λ t r.
    no-name c.args.self.now c.args.self.now refl t (numbers c.args.bases.items) c.add_heap.result (bindings t c.args.attrs) (c.in-None-name_refusal.ensures t r) c.add_heap.ensures.refused
