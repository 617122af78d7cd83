use Rattle.proto_attr.proofs.Lemmas.{closed-begins}
use Rattle.proto_attr.proofs.proto_descr.descr_set.descr_set.Goals as goal

pub returns-clause-goes : goal.returns-clause-goes
returns-clause-goes c =
    let a = c.args in
    rw c.closed.ensures.step (closed-begins a.m a.o a.value a.world.now c.set_as.new.world c.in_ok-step.step c.in_ok-step.ensures.steps)
