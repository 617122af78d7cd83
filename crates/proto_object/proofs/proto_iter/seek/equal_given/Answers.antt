use Rattle.proto_object.proofs.Lemmas.{Equal, ends-same, ends-untrue}
use Rattle.proto_object.proofs.proto_iter.seek.equal_given.Goals as goal

pub returns-in-Err-clause-goes : goal.returns-in-Err-clause-goes
returns-in-Err-clause-goes c = λ w.
    ends-same (Equal c.args.seeking) c.args.answer c.in-Err.other w c.in-Err.ensures.same (ends-untrue c.args.seeking c.args.answer w c.in-Err.ensures.other)
