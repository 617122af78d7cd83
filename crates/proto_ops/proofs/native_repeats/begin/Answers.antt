use Rattle.proto_ops.proofs.native_repeats.begin.Goals as goal

pub returns-clause-goes : goal.returns-clause-goes
returns-clause-goes c = rw (c.deref.ensures.value, c.deref-in-Some.ensures.value) at c.begin_kind.ensures.goes
