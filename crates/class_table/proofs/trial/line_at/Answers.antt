use Rattle.class_table.proofs.Lemmas.{false, true, Some, sym, ap, ◌∙◌, has, with_bases, numbers, StoredClass, classes_of, trial_at, kept-away, line-of_trial, some-trial, read-is}
use Rattle.std.proofs.Common.{◌≡◌}
use Rattle.class_table.proofs.trial.line_at.Goals as goal

pub returns-then-not-derives : goal.returns-then-not-derives
returns-then-not-derives c = λ k e.
    let kept = c.args.change.classes.now in
    let s = read-is kept c.args.at c.at-stored.result k c.at-stored.ensures e in
    let away : has k.mro c.args.change.class.0 ≡ false = ap (λ (z : StoredClass). has z.mro c.args.change.class.0) (sym s) ∙ sym c.derives.ensures ∙ c.if-not-derives.true in
    ap Some (c.mro.ensures ∙ ap (λ (z : StoredClass). z.mro) s) ∙ sym (kept-away kept c.requires.coherent c.args.change.class.0 (numbers c.args.change.bases.now) c.args.at k e away)

pub returns-in-None : goal.returns-in-None
returns-in-None c = λ k e.
    let kept = c.args.change.classes.now in
    let s = read-is kept c.args.at c.at-stored.result k c.at-stored.ensures e in
    let derives : has k.mro c.args.change.class.0 ≡ true = ap (λ (z : StoredClass). has z.mro c.args.change.class.0) (sym s) ∙ sym c.derives.ensures ∙ c.if-not-derives.false in
    let u = with_bases (classes_of kept) c.args.change.class.0 (numbers c.args.change.bases.now) in
    absurd (some-trial u k.number (trial_at c.args.trials.now c.args.at) (c.requires.known k e derives) (sym c.in-None.ensures))

pub returns-in-Some : goal.returns-in-Some
returns-in-Some c = λ k e.
    let kept = c.args.change.classes.now in
    let s = read-is kept c.args.at c.at-stored.result k c.at-stored.ensures e in
    let derives : has k.mro c.args.change.class.0 ≡ true = ap (λ (z : StoredClass). has z.mro c.args.change.class.0) (sym s) ∙ sym c.derives.ensures ∙ c.if-not-derives.false in
    let u = with_bases (classes_of kept) c.args.change.class.0 (numbers c.args.change.bases.now) in
    c.line_in.ensures ∙ sym (line-of_trial u k.number (trial_at c.args.trials.now c.args.at) c.in-Some.trial.now (c.requires.known k e derives) (sym c.in-Some.ensures))
