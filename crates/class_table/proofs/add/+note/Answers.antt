use Rattle.class_table.proofs.Lemmas.{List, length, get_or, take, drop, sym, ap, subst, ◌∙◌, arith, Distinct, Classes, is_ascending, PyStrInterned, numbers, StoredClass, classes_of, noted, AreThere, is_class, first-others, fewer-others, none-of, noted-none, noted-all, plain-mid}
use Rattle.std.proofs.Common.{◌-◌}
use Rattle.class_table.proofs.add.+note.Goals as goal

pub note-requires : goal.note-requires
note-requires t c =
    let l = c.in-len1-up.len_at_least in
    let few = fewer-others c.args.bases.now l in
    let parts = first-others c.args.bases.now l in
    let b = (get_or c.args.bases.now 0 (record { 0 = 0 })).0 in
    let mid = plain-mid b c.args.number.0 c.args.classes.now c.note_in.new.classes c.in_ok-note_in-in-len1-up.ensures.ok in
    let there = subst (AreThere (classes_of c.args.classes.now)) parts c.requires.there in
    let once = subst Distinct parts c.requires.distinct in
    (omega (arith, few, c.decreases), (ap is_ascending mid ∙ c.requires.ascending, (subst (λ u. AreThere u (numbers (take (length c.args.bases.now - 1) (drop 1 c.args.bases.now)))) (sym mid) there.1, once.1)))

pub forget_in-requires-clause-ascending : goal.forget_in-requires-clause-ascending
forget_in-requires-clause-ascending t c =
    let b = (get_or c.args.bases.now 0 (record { 0 = 0 })).0 in
    let mid = plain-mid b c.args.number.0 c.args.classes.now c.note_in.new.classes c.in_ok-note_in-in-len1-up.ensures.ok in
    ap (λ (ys : List StoredClass). is_ascending (classes_of ys)) c.in-Err.ensures.err ∙ ap is_ascending mid ∙ c.requires.ascending

pub forget_in-requires-clause-there : goal.forget_in-requires-clause-there
forget_in-requires-clause-there t c =
    let b = (get_or c.args.bases.now 0 (record { 0 = 0 })).0 in
    let mid = plain-mid b c.args.number.0 c.args.classes.now c.note_in.new.classes c.in_ok-note_in-in-len1-up.ensures.ok in
    let there = subst (AreThere (classes_of c.args.classes.now)) (first-others c.args.bases.now c.in-len1-up.len_at_least) c.requires.there in
    ap (λ (ys : List StoredClass). is_class (classes_of ys) b) c.in-Err.ensures.err ∙ ap (λ (u : Classes PyStrInterned). is_class u b) mid ∙ there.0

pub returns-in-empty-clause-ok : goal.returns-in-empty-clause-ok
returns-in-empty-clause-ok t c =
    let none = none-of c.args.bases.now c.in-empty.len_below in
    sym (ap (λ bs. noted bs c.args.number.0 c.args.classes.now) none ∙ noted-none c.args.number.0 c.args.classes.now)

pub returns-in-Ok-clause-ok : goal.returns-in-Ok-clause-ok
returns-in-Ok-clause-ok t c =
    let parts = first-others c.args.bases.now c.in-len1-up.len_at_least in
    let b = (get_or c.args.bases.now 0 (record { 0 = 0 })).0 in
    let rest = numbers (take (length c.args.bases.now - 1) (drop 1 c.args.bases.now)) in
    noted-all b c.args.number.0 rest c.args.classes.now c.note_in.new.classes c.note.new.classes (subst Distinct parts c.requires.distinct) c.in_ok-note_in-in-len1-up.ensures.ok c.in-Ok.ensures.ok
    ∙ ap (λ bs. noted bs c.args.number.0 c.args.classes.now) (sym parts)
