use Rattle.class_table.proofs.Lemmas.{true, false, Some, sym, ◌∙◌, slice_get, Cause, with_bases, is_blamed, caused, numbers, StoredClass, classes_of, bases_under, trial_at, bases-now, some-trial, tried-blamed, tried-spared, if-some, if-none}
use Rattle.std.proofs.Common.{◌≡◌}
use Rattle.class_table.proofs.blame.cause_at.Goals as goal

pub returns-in-None-clause-none : goal.returns-in-None-clause-none
returns-in-None-clause-none c = λ k e.
    let u = with_bases (classes_of c.args.change.classes.now) c.args.change.class.0 (numbers c.args.change.bases.now) in
    absurd (some-trial u k.number (trial_at c.args.trials.now c.args.at) (c.requires.known.at c.args.at k e (c.requires.derives k e)) (sym c.in-None.ensures))

pub returns-in-Some-clause-blamed : goal.returns-in-Some-clause-blamed
returns-in-Some-clause-blamed c =
    let kept = c.args.change.classes.now in
    let class = c.args.change.class.0 in
    let bs = numbers c.args.change.bases.now in
    let P : Cause → Type 0 = λ cause. (k : StoredClass) → slice_get kept c.args.at ≡ Some k → is_blamed (with_bases (classes_of kept) class bs) k.number (bases_under class bs k) ≡ true in
    if-some c.cause_in.result P (λ cause q k e. (tried-blamed (with_bases (classes_of kept) class bs) k.number (bases_under class bs k) (bases-now kept c.requires.coherent class bs c.args.at k e) (trial_at c.args.trials.now c.args.at) c.in-Some.trial.now cause (c.requires.known.at c.args.at k e (c.requires.derives k e)) c.in-Some.ensures (q ∙ c.cause_in.ensures)).0)

pub returns-in-Some-clause-caused : goal.returns-in-Some-clause-caused
returns-in-Some-clause-caused c =
    let kept = c.args.change.classes.now in
    let class = c.args.change.class.0 in
    let bs = numbers c.args.change.bases.now in
    let P : Cause → Type 0 = λ cause. (k : StoredClass) → slice_get kept c.args.at ≡ Some k → caused (with_bases (classes_of kept) class bs) k.number ≡ Some (k.number, cause) in
    if-some c.cause_in.result P (λ cause q k e. (tried-blamed (with_bases (classes_of kept) class bs) k.number (bases_under class bs k) (bases-now kept c.requires.coherent class bs c.args.at k e) (trial_at c.args.trials.now c.args.at) c.in-Some.trial.now cause (c.requires.known.at c.args.at k e (c.requires.derives k e)) c.in-Some.ensures (q ∙ c.cause_in.ensures)).1)

pub returns-in-Some-clause-none : goal.returns-in-Some-clause-none
returns-in-Some-clause-none c =
    let kept = c.args.change.classes.now in
    let class = c.args.change.class.0 in
    let bs = numbers c.args.change.bases.now in
    let P : Type 0 = (k : StoredClass) → slice_get kept c.args.at ≡ Some k → is_blamed (with_bases (classes_of kept) class bs) k.number (bases_under class bs k) ≡ false in
    if-none c.cause_in.result P (λ q k e. tried-spared (with_bases (classes_of kept) class bs) k.number (bases_under class bs k) (bases-now kept c.requires.coherent class bs c.args.at k e) (trial_at c.args.trials.now c.args.at) c.in-Some.trial.now (c.requires.known.at c.args.at k e (c.requires.derives k e)) c.in-Some.ensures (q ∙ c.cause_in.ensures))
