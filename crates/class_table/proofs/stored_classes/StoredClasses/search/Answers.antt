use Rattle.class_table.proofs.Lemmas.{List, rules, sym, ap, ◌∙◌, answers_always, class_at, StoredClass, number_at, classes_of, searched-place, searched-none, plain-of, number-lined, ascends-lined}
use Rattle.class_table.proofs.stored_classes.StoredClasses.search.Goals as goal

pub returns-in-Ok-clause-place : goal.returns-in-Ok-clause-place
returns-in-Ok-clause-place c =
    let facts = c.in-Ok.ensures in
    let ks = c.self.inside.classes.items in
    let ls = c.self.inside.lines in
    let zs = c.deref.result.now in
    let up = ascends-lined ks zs ls c.args.self.now c.self.view_is c.self.invariant c.deref.ensures.value c.requires in
    ap (λ (ys : List StoredClass). number_at ys c.in-Ok.place) (sym c.self.view_is)
    ∙ number-lined ks ls c.in-Ok.place c.self.invariant
    ∙ ap (λ (ys : List StoredClass). number_at ys c.in-Ok.place) (sym c.deref.ensures.value)
    ∙ searched-place zs up c.args.class.0 c.in-Ok.place facts.bound (facts.position (λ (k : StoredClass). k.number) (answers_always _ _ _ (λ f a r g called. search rules)))

pub returns-in-Err-clause-none : goal.returns-in-Err-clause-none
returns-in-Err-clause-none c =
    let facts = c.in-Err.ensures in
    let ks = c.self.inside.classes.items in
    let ls = c.self.inside.lines in
    let zs = c.deref.result.now in
    let up = ascends-lined ks zs ls c.args.self.now c.self.view_is c.self.invariant c.deref.ensures.value c.requires in
    ap (λ (ys : List StoredClass). class_at (classes_of ys) c.args.class.0) (sym c.self.view_is)
    ∙ ap (λ ys. class_at ys c.args.class.0) (plain-of ks ls c.self.invariant)
    ∙ ap (λ (ys : List StoredClass). class_at (classes_of ys) c.args.class.0) (sym c.deref.ensures.value)
    ∙ searched-none zs up c.args.class.0 c.in-Err.field-0 (facts.position (λ (k : StoredClass). k.number) (answers_always _ _ _ (λ f a r g called. search rules)))
