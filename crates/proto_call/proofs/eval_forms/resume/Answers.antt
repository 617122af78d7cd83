use Rattle.proto_call.proofs.Lemmas.{sym, subst, End, AllHold, Operands, Resumes, of_eval_kept, ends-with}
use Rattle.proto_call.proofs.eval_forms.resume.Goals as goal

pub returns-in-Err-clause-goes : goal.returns-in-Err-clause-goes
returns-in-Err-clause-goes c =
    let w = c.args.world.now in
    let s = c.args.answer in
    let held = subst (λ k. AllHold w (of_eval_kept k)) c.in-Operands.is c.requires.kept in
    subst (λ k. Resumes k s w w (End c.in-Err.other)) (sym c.in-Operands.is) (
    subst (λ r. Resumes (Operands c.in-Operands.e c.in-Operands.values) s w w (End r)) (sym c.in-Err.ensures.same)
    (ends-with w c.in-Operands.e c.in-Operands.values s c.in-Err.ensures.other held.1.0))
