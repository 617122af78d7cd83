use Rattle.class_table.proofs.Lemmas.{List, map, Some, sym, ap, ◌∙◌, Vec, PyTypeRef, rows, numbers, lin, with_bases, classes_of, none-among, held-at}
use Rattle.class_table.proofs.Collected.{lines-more}
use Rattle.class_table.proofs.trial.lines_of.Goals as goal

pub line_of-requires-clause-there : goal.line_of-requires-clause-there
line_of-requires-clause-there c = c.requires.there _ (held-at c.args.bases.now c.loop-base.base-index (record { 0 = 0 }) c.loop-base-test.true)

pub line_of-requires-clause-known : goal.line_of-requires-clause-known
line_of-requires-clause-known c = c.requires.known _ (held-at c.args.bases.now c.loop-base.base-index (record { 0 = 0 }) c.loop-base-test.true)

pub returns-in-None : goal.returns-in-None
returns-in-None c =
    let u = with_bases (classes_of c.args.change.classes.now) c.args.change.class.0 (numbers c.args.change.bases.now) in
    none-among (lin u) (numbers c.args.bases.now) _ (held-at c.args.bases.now c.loop-base.base-index (record { 0 = 0 }) c.loop-base-test.true) (sym c.in-None.ensures)

pub loop-base-preserved : goal.loop-base-preserved
loop-base-preserved c =
    let u = with_bases (classes_of c.args.change.classes.now) c.args.change.class.0 (numbers c.args.change.bases.now) in
    ap (λ (vs : List (Vec PyTypeRef)). map Some (rows vs)) c.in_ok-push-in-Some.ensures.items
    ∙ lines-more (lin u) c.args.bases.now c.loop-base.lines.items c.in_ok-copy-in-Some.copy c.loop-base.base-index (record { 0 = 0 }) c.loop-base-test.true c.loop-base.invariant (ap Some (ap numbers c.in_ok-copy-in-Some.ensures.items) ∙ c.in-Some.ensures)
