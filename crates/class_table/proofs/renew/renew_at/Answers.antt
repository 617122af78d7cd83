use Rattle.class_table.proofs.Lemmas.{ap, ◌∙◌, is_class, base, with_bases, numbers, classes_of, read-at, is-there}
use Rattle.class_table.proofs.renew.renew_at.Goals as goal

pub line_under-line-requires-clause-class : goal.line_under-line-requires-clause-class
line_under-line-requires-clause-class c =
    let kept = c.args.change.classes.now in
    let k = c.at.result in
    let e = read-at kept c.args.at k c.requires.inside c.at.ensures in
    ap (is_class (classes_of kept)) c.number-number.ensures
    ∙ is-there kept c.requires.coherent c.args.change.class.0 (numbers c.args.change.bases.now) c.args.at k e

pub renew-requires-clause-class : goal.renew-requires-clause-class
renew-requires-clause-class c =
    let kept = c.args.change.classes.now in
    let k = c.at.result in
    let e = read-at kept c.args.at k c.requires.inside c.at.ensures in
    ap (is_class (classes_of kept)) c.number-number.ensures
    ∙ is-there kept c.requires.coherent c.args.change.class.0 (numbers c.args.change.bases.now) c.args.at k e

pub renew-requires-clause-base : goal.renew-requires-clause-base
renew-requires-clause-base c =
    let kept = c.args.change.classes.now in
    let k = c.at.result in
    let e = read-at kept c.args.at k c.requires.inside c.at.ensures in
    ap (base (with_bases (classes_of kept) c.args.change.class.0 (numbers c.args.change.bases.now))) c.number-number.ensures
    ∙ c.base_under-base.ensures k e
