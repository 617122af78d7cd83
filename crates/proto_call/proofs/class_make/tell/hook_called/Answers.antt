use Rattle.proto_call.proofs.Lemmas.{hook-called, hook-raised}
use Rattle.proto_call.proofs.class_make.tell.hook_called.Goals as goal

pub returns-in-Err-clause-goes : goal.returns-in-Err-clause-goes
returns-in-Err-clause-goes c =
    rw c.raise.ensures (hook-raised c.args.telling c.args.answer c.in-Err.field-0 c.args.world.now c.in-Err.is)

pub returns-in-Ok-clause-goes : goal.returns-in-Ok-clause-goes
returns-in-Ok-clause-goes c =
    hook-called c.args.telling c.args.answer c.in-Ok.field-0 c.args.world.now c.call_next.new.world c.call_next.result c.in-Ok.is c.call_next.ensures.goes
