use Rattle.class_table.proofs.Lemmas.{ℕ, List, sym, ap, subst, ◌∙◌, PyStrInterned, Classes, is_ascending, numbers, noted, AreThere, StoredClass, classes_of, plain-noted}
use Rattle.std.proofs.Common.{◌≡◌}
use Rattle.class_table.proofs.add.attach.Goals as goal

pub forget-requires-clause-ascending : goal.forget-requires-clause-ascending
forget-requires-clause-ascending c =
    let kept = c.args.classes.now in
    let mid = c.in-Err.ensures.err ∙ c.in_ok-note.ensures.ok in
    ap (λ (ys : List StoredClass). is_ascending (classes_of ys)) mid
    ∙ ap is_ascending (plain-noted (numbers c.bases.result.now) c.number.result.0 kept)
    ∙ c.requires.ascending

pub forget-requires-clause-there : goal.forget-requires-clause-there
forget-requires-clause-there c =
    let kept = c.args.classes.now in
    let bs = numbers c.bases-in-Err.result.now in
    let mid = c.in-Err.ensures.err ∙ c.in_ok-note.ensures.ok in
    let plain : classes_of c.push.new.self ≡ classes_of kept = ap classes_of mid ∙ plain-noted (numbers c.bases.result.now) c.number.result.0 kept in
    let same : bs ≡ c.args.new.bases = c.bases-in-Err.ensures ∙ ap (λ (k : StoredClass). k.bases) c.in-Err.ensures.back in
    let P : Classes PyStrInterned → Type 0 = λ t. AreThere t bs in
    let Q : List ℕ → Type 0 = λ ys. AreThere (classes_of kept) ys in
    subst P (sym plain) (subst Q (sym same) c.requires.there)

pub returns-in-Err-clause-err : goal.returns-in-Err-clause-err
returns-in-Err-clause-err c =
    let kept = c.args.classes.now in
    let n = c.number.result.0 in
    let mid = c.in-Err.ensures.err ∙ c.in_ok-note.ensures.ok in
    let same : numbers c.bases.result.now ≡ numbers c.bases-in-Err.result.now = c.bases.ensures ∙ sym (c.bases-in-Err.ensures ∙ ap (λ (k : StoredClass). k.bases) c.in-Err.ensures.back) in
    c.forget.ensures.back n kept (mid ∙ ap (λ ys. noted ys n kept) same)
