use Rattle.class_table.proofs.Lemmas.{add-one, [], Add, map-step, map-end, next-new}
use Rattle.class_table.proofs.start.table_of.Goals as goal

pub loop-row-preserved : goal.loop-row-preserved
loop-row-preserved c =
    let new = c.in_ok-intern.ensures.added (λ s. next-new (λ r. r.1.now) c.args.rows.now c.loop-row.row-index s.0 _ c.loop-row-test.true c.requires (rw c.loop-row.invariant at s.1)) in
    rw (add-one, map-step (λ r. r.1.now) c.args.rows.now c.loop-row.row-index (Add, record { ref_ptr = (0, 0); now = [] }) c.loop-row-test.true, ← c.loop-row.invariant) new

pub returns : goal.returns
returns c = rw c.loop-row.invariant (map-end (λ r. r.1.now) c.args.rows.now c.loop-row.row-index c.loop-row-test.false)
