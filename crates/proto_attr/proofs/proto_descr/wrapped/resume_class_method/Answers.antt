use Rattle.proto_attr.proofs.Lemmas.{passed-resumes}
use Rattle.proto_attr.proofs.proto_descr.wrapped.resume_class_method.Goals as goal

pub returns-clause-goes : goal.returns-clause-goes
returns-clause-goes c =
    let a = c.args in
    rw c.passed.ensures.step (passed-resumes a.class a.func a.answer a.world.now c.bind_class_method.new.world c.in_ok-step.step c.in_ok-step.ensures.steps)
