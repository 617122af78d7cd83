use Rattle.class_table.proofs.Lemmas.{stops}
use Rattle.class_table.proofs.class_log.replica.Replica.make_all.Goals as goal

pub returns-in-Err-clause-left : goal.returns-in-Err-clause-left
returns-in-Err-clause-left c =
    stops c.args.self.now c.loop-change.self c.append.new.self c.args.rest.now c.loop-change.change-index c.loop-change.invariant.0 c.loop-change.invariant.1 c.in-Err.ensures.err
