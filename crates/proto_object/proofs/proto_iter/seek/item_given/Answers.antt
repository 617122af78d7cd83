use Rattle.proto_object.proofs.Lemmas.{Ok, Value, Exhausted, Next, answered, ends-same, item-is, none-is, asks-item, ends-last, ends-other}
use Rattle.proto_object.proofs.proto_iter.seek.item_given.Goals as goal

pub returns-in-Ok-Some-clause-goes : goal.returns-in-Ok-Some-clause-goes
returns-in-Ok-Some-clause-goes c = λ w.
    let v = c.in-Ok-Some.item in
    answered (Next c.args.seeking) c.args.answer (Ok (Value v)) w _ (item-is c.in-Ok-Some.field-0 v c.args.answer (cc) c.in-Ok-Some.ensures.item) (asks-item c.args.seeking v w)

pub returns-in-Ok-None-clause-goes : goal.returns-in-Ok-None-clause-goes
returns-in-Ok-None-clause-goes c = λ w.
    answered (Next c.args.seeking) c.args.answer (Ok Exhausted) w _ (none-is c.in-Ok-None.field-0 c.args.answer (cc) c.in-Ok-None.ensures.item) (ends-last c.args.seeking _ w c.last.ensures.ended)

pub returns-in-Err-clause-goes : goal.returns-in-Err-clause-goes
returns-in-Err-clause-goes c = λ w.
    ends-same (Next c.args.seeking) c.args.answer c.in-Err.other w c.in-Err.ensures.same (ends-other c.args.seeking c.args.answer w c.in-Err.ensures.other)
