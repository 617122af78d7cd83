use Rattle.proto_attr.proofs.Lemmas.{datum_at, property_get, passed-starts}
use Rattle.proto_attr.proofs.proto_descr.property.get_of_property.Goals as goal

pub returns-clause-goes : goal.returns-clause-goes
returns-clause-goes c =
    let a = c.args in
    rw c.passed.ensures.step (passed-starts a.m a.o a.class (λ t w. property_get w (datum_at w a.m) a.m a.o) a.world.now a.world.now c.in_ok-step.step c.in_ok-step.ensures.steps)
