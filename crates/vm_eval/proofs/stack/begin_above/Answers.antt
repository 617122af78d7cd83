use Rattle.vm_eval.proofs.Lemmas.{arith, comes-above, limited-above}
use Rattle.std.proofs.Common.{length}
use Rattle.vm_eval.proofs.stack.begin_above.Goals as goal

pub returns-then-len-lt-DEPTH-clause-goes : goal.returns-then-len-lt-DEPTH-clause-goes
returns-then-len-lt-DEPTH-clause-goes c =
    comes-above (length c.args.stack.now.items) c.args.task c.args.world.now c.begin.new.world c.args.stack.now.items c.begin.new.stack.items c.begin.result (omega arith) c.begin.ensures.goes

pub returns-clause-goes : goal.returns-clause-goes
returns-clause-goes c =
    rw c.too_deep.ensures (limited-above (length c.args.stack.now.items) c.args.task c.args.world.now c.args.stack.now.items (omega arith))
