use Rattle.class_table.proofs.Lemmas.{empty-none, empty-push}
use Rattle.class_table.proofs.cache.blank_rows.Goals as goal

pub loop-row-init : goal.loop-row-init
loop-row-init c = empty-none _ c.in_ok-rows.ensures.items

pub loop-row-preserved : goal.loop-row-preserved
loop-row-preserved c = empty-push c.loop-row.rows.items _ c.loop-row.invariant c.in_ok-push.ensures.items
