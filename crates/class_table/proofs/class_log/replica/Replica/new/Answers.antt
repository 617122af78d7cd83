use Rattle.class_table.proofs.Lemmas.{opens}
use Rattle.class_table.proofs.class_log.replica.Replica.new.Goals as goal

pub invariant_of-result : goal.invariant_of-result
invariant_of-result c = opens c.in_ok-without_rows.field-0 c.new.result.items c.new.ensures.items c.in_ok-without_rows.ensures
