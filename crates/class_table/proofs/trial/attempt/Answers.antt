use Rattle.class_table.proofs.Lemmas.{ℕ, List, Some, sym, ap, subst, ◌∙◌, Distinct, Includes, bases_of, with_bases, numbers, StoredClass, classes_of, IsTrial, IsWithout, read-is, read-at, bases-now, distinct-now, there-now, if-ok}
use Rattle.class_table.proofs.trial.attempt.Goals as goal

pub lines_of-requires-clause-there : goal.lines_of-requires-clause-there
lines_of-requires-clause-there g c = λ b h.
    let kept = c.args.change.classes.now in
    let class = c.args.change.class.0 in
    let bs = numbers c.args.change.bases.now in
    let k = c.at-stored.result in
    let e = read-at kept c.args.at k c.requires.inside c.at-stored.ensures in
    let u = c.bases_under-bases.ensures in
    let P : List ℕ → Type 0 = λ ds. Includes ds b in
    there-now kept c.requires.coherent class bs c.args.at k e c.requires.there c.requires.apart b (subst P u h)

pub lines_of-requires-clause-known : goal.lines_of-requires-clause-known
lines_of-requires-clause-known g c = λ b h.
    let kept = c.args.change.classes.now in
    let class = c.args.change.class.0 in
    let bs = numbers c.args.change.bases.now in
    let k = c.at-stored.result in
    let e = read-at kept c.args.at k c.requires.inside c.at-stored.ensures in
    let u = c.bases_under-bases.ensures in
    let P : List ℕ → Type 0 = λ ds. Includes ds b in
    c.requires.known k b e (subst P u h)

pub merged-requires-clause-distinct : goal.merged-requires-clause-distinct
merged-requires-clause-distinct g c =
    let kept = c.args.change.classes.now in
    let class = c.args.change.class.0 in
    let bs = numbers c.args.change.bases.now in
    let k = c.at-stored.result in
    let e = read-at kept c.args.at k c.requires.inside c.at-stored.ensures in
    let u = c.bases_under-bases.ensures in
    subst Distinct (sym u) (distinct-now kept c.requires.coherent class bs c.args.at k e c.requires.distinct)

pub merged-requires-clause-bases : goal.merged-requires-clause-bases
merged-requires-clause-bases g c =
    let kept = c.args.change.classes.now in
    let class = c.args.change.class.0 in
    let bs = numbers c.args.change.bases.now in
    let k = c.at-stored.result in
    let e = read-at kept c.args.at k c.requires.inside c.at-stored.ensures in
    let u = c.bases_under-bases.ensures in
    ap (bases_of (with_bases (classes_of kept) class bs)) c.number.ensures
    ∙ bases-now kept c.requires.coherent class bs c.args.at k e
    ∙ ap Some (sym u)

pub returns-in-None-clause-trial : goal.returns-in-None-clause-trial
returns-in-None-clause-trial g c = λ j q.
    let kept = c.args.change.classes.now in
    let class = c.args.change.class.0 in
    let bs = numbers c.args.change.bases.now in
    let k = c.at-stored.result in
    let e = read-at kept c.args.at k c.requires.inside c.at-stored.ensures in
    let u = c.bases_under-bases.ensures in
    let P : StoredClass → Type 0 = λ z. IsWithout (with_bases (classes_of kept) class bs) z.number in
    subst P (read-is kept c.args.at k j c.at-stored.ensures q) (record { bases = numbers c.bases_under-bases.result.now; of_class = bases-now kept c.requires.coherent class bs c.args.at k e ∙ ap Some (sym u); of_bases = rw c.in-None.is at c.in_ok-lines_of.ensures })

pub returns-in-Some-clause-trial : goal.returns-in-Some-clause-trial
returns-in-Some-clause-trial g c =
    let kept = c.args.change.classes.now in
    let class = c.args.change.class.0 in
    let bs = numbers c.args.change.bases.now in
    let k = c.at-stored.result in
    if-ok _ _ c.merged.result (λ r t j q.
    let P : ℕ → Type 0 = λ x. IsTrial (with_bases (classes_of kept) class bs) x r in
    subst P (c.number.ensures ∙ ap (λ (z : StoredClass). z.number) (read-is kept c.args.at k j c.at-stored.ensures q)) t) c.merged.ensures
