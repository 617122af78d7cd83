use Rattle.proto_attr.proofs.Lemmas.{sorted_ends, super-resumes}
use Rattle.proto_attr.proofs.native_calls.supers.resume_super.Goals as goal

pub returns-clause-goes : goal.returns-clause-goes
returns-clause-goes c =
    let a = c.args in
    super-resumes a.class a.object a.answer a.world.now c.bind_super.new.world c.in_ok-ended.ended (sorted_ends c.bind_super.result c.in_ok-ended.ended _ c.in_ok-ended.ensures c.bind_super.ensures.goes)
