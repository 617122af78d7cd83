use Rattle.proto_attr.proofs.Lemmas.{End, subst, sym, sorted_ends, told-resumes}
use Rattle.proto_attr.specs.NativeCalls.Asks.{Resumes}
use Rattle.proto_attr.specs.declared.native_calls.NativeKept.{NativeKept}
use Rattle.proto_attr.proofs.native_calls.resume.Goals as goal

pub returns-in_ok-ended-in-Pass-clause-goes : goal.returns-in_ok-ended-in-Pass-clause-goes
returns-in_ok-ended-in-Pass-clause-goes c =
    let a = c.args in
    let e = c.in_ok-ended-in-Pass in
    let Goes : NativeKept → Type 0 = λ k. Resumes k a.answer a.world.now c.as_object.new.world (End e.ended) in
    subst Goes (sym c.in-Pass.is) (told-resumes a.answer a.world.now c.as_object.new.world e.ended (sorted_ends c.as_object.result e.ended _ e.ensures c.as_object.ensures.ends))
