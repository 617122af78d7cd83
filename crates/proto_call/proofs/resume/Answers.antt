use Rattle.proto_call.proofs.Lemmas.{End, sym, subst, sorted_ends, told-resumes}
use Rattle.proto_call.specs.Rows.{Resumes}
use Rattle.proto_call.specs.declared.CallKept.{CallKept}
use Rattle.proto_call.proofs.resume.Goals as goal

pub returns-in_ok-ended-in-Named-clause-goes : goal.returns-in_ok-ended-in-Named-clause-goes
returns-in_ok-ended-in-Named-clause-goes c =
    let a = c.args in
    let e = c.in_ok-ended-in-Named in
    let Goes : CallKept → Type 0 = λ k. Resumes k a.answer a.world.now c.as_object.new.world (End e.ended) in
    subst Goes (sym c.in-Named.is) (told-resumes a.answer a.world.now c.as_object.new.world e.ended (sorted_ends c.as_object.result e.ended _ e.ensures c.as_object.ensures.ends))
