use Rattle.vm_eval.proofs.look_ahead.begin.Goals as goal

pub returns-clause-goes : goal.returns-clause-goes
returns-clause-goes c = rw (← c.find_first.ensures) c.begin.ensures.goes

pub returns-clause-safe : goal.returns-clause-safe
returns-clause-safe c = rw (← c.find_first.ensures) c.begin.ensures.safe

pub begin-requires : goal.begin-requires
begin-requires c = rw c.find_first.ensures c.requires
