use Rattle.proto_call.proofs.Lemmas.{sym, subst, Ask, End, DoIndex, ToProtocol, pass, plain, Start, Stop, Resumes, asks-stop, ends-start}
use Rattle.proto_call.proofs.eval_forms.bounds.with_start.Goals as goal

pub returns-in-Err-number_in-clause-goes : goal.returns-in-Err-number_in-clause-goes
returns-in-Err-number_in-clause-goes c =
    let w = c.args.world.now in
    let s = c.args.answer in
    subst (λ r. Resumes (Start c.args.part c.args.object c.args.stop) r w w (End c.in-Err-number_in.ended)) (sym c.in-Ok.ensures.object)
    (ends-start w c.args.part c.args.object c.args.stop c.in-Ok.start c.in-Err-number_in.ended (λ t. c.in-Err-number_in.ensures.refused t (λ i. pass (plain t w) (ToProtocol (DoIndex c.args.stop)))))

pub returns-in-Ok-number_in-clause-goes : goal.returns-in-Ok-number_in-clause-goes
returns-in-Ok-number_in-clause-goes c =
    let w = c.args.world.now in
    let p = c.args.part in
    let o = c.args.object in
    let j = c.args.stop in
    let i = c.in-Ok.start in
    subst (λ r. Resumes (Start p o j) r w w (Ask c.index_of.result (Stop p o i))) (sym c.in-Ok.ensures.object)
    (rw c.index_of.ensures (asks-stop w p o j i (λ t. c.in-Ok-number_in.ensures.given t (λ a. pass (plain t w) (ToProtocol (DoIndex j))))))
