use Rattle.class_table.proofs.Lemmas.{ap, by_cause}
use Rattle.class_table.proofs.class_log.log.out_of_memory.Goals as goal

pub returns-in-Ok-clause-told : goal.returns-in-Ok-clause-told
returns-in-Ok-clause-told c = ap by_cause c.in-Ok.ensures

pub returns-in-Err-clause-told : goal.returns-in-Err-clause-told
returns-in-Err-clause-told c = ap by_cause c.in-Err.ensures
