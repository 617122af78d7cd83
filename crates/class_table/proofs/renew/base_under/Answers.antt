use Rattle.class_table.proofs.Lemmas.{sym, ap, ◌∙◌, base, with_bases, numbers, StoredClass, classes_of, read-is, base-away_passed, base-here_passed}
use Rattle.std.proofs.Common.{◌≡◌}
use Rattle.class_table.proofs.renew.base_under.Goals as goal

pub returns-then-number-change : goal.returns-then-number-change
returns-then-number-change c = λ k e.
    let kept = c.args.change.classes.now in
    let class = c.args.change.class.0 in
    let bs = numbers c.args.change.bases.now in
    let s = read-is kept c.args.at c.at-stored.result k c.at-stored.ensures e in
    let number : k.number ≡ class = ap (λ (z : StoredClass). z.number) (sym s) ∙ sym c.number.ensures ∙ c.if-number-change.true in
    ap (base (with_bases (classes_of kept) class bs)) number ∙ base-here_passed (classes_of kept) c.requires.coherent.sound class bs c.requires.own c.requires.there c.requires.passed c.args.best.0 c.requires.best

pub returns-else-number-change : goal.returns-else-number-change
returns-else-number-change c = λ k e.
    let kept = c.args.change.classes.now in
    let class = c.args.change.class.0 in
    let bs = numbers c.args.change.bases.now in
    let s = read-is kept c.args.at c.at-stored.result k c.at-stored.ensures e in
    let number = ap (λ (z : StoredClass). z.number) (sym s) ∙ sym c.number.ensures in
    base-away_passed (classes_of kept) c.requires.coherent.sound class bs c.requires.own c.requires.there c.requires.passed k.number (λ q. c.if-number-change.false (sym number ∙ q))
    ∙ c.requires.coherent.base c.args.at k e
    ∙ ap (λ (z : StoredClass). z.base) (sym s)
    ∙ sym c.base.ensures
