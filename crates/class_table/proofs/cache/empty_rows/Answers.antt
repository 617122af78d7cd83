use Rattle.class_table.proofs.Lemmas.{arith, empty-start, empty-next, empty-end}
use Rattle.class_table.proofs.cache.empty_rows.Goals as goal

pub loop-place-init : goal.loop-place-init
loop-place-init c = empty-start c.args.rows.now

pub loop-place-preserved : goal.loop-place-preserved
loop-place-preserved c = empty-next c.loop-place.place c.loop-place.rows c.loop-place.invariant (omega arith)

pub returns : goal.returns
returns c = empty-end c.loop-place.place c.loop-place.rows c.loop-place.invariant (omega arith)
