use Rattle.class_table.proofs.Lemmas.{List, map, get_or, Some, sym, ap, ◌∙◌, Vec, PyTypeRef, lin, rows, numbers, classes_of, held-at, each-there}
use Rattle.std.proofs.Common.{◌≡◌}
use Rattle.class_table.proofs.Collected.{lines-more}
use Rattle.class_table.proofs.inherit.lines.Goals as goal

pub stored_at-requires-clause-there : goal.stored_at-requires-clause-there
stored_at-requires-clause-there c =
    each-there (classes_of c.args.classes.now) (numbers c.args.bases.now) c.requires.there _ (held-at c.args.bases.now c.loop-base.base-index (record { 0 = 0 }) c.loop-base-test.true)

pub loop-base-preserved : goal.loop-base-preserved
loop-base-preserved c =
    let t = classes_of c.args.classes.now in
    let here = c.stored_at.ensures.here in
    let held : lin t (get_or c.args.bases.now c.loop-base.base-index (record { 0 = 0 })).0 ≡ Some c.stored_at.result.mro = ap (lin t) (sym here.number) ∙ c.requires.coherent.mro here.place c.stored_at.result here.at in
    ap (λ (vs : List (Vec PyTypeRef)). map Some (rows vs)) c.in_ok-push.ensures.items
    ∙ lines-more (lin t) c.args.bases.now c.loop-base.lines.items c.in_ok-line.line c.loop-base.base-index (record { 0 = 0 }) c.loop-base-test.true c.loop-base.invariant (ap Some (ap numbers c.in_ok-line.ensures.items ∙ c.mro.ensures) ∙ sym held)
