use Rattle.proto_call.proofs.Lemmas.{sym, ap, ◌∙◌, rules, w64, FitsSigned, to_z-of_z, pass, plain, ended_of, Count, counted_task, with_index, asks-then, start}
use Rattle.proto_call.specs.EvalForms.Words.{made}
use Rattle.proto_call.proofs.eval_forms.bounds.with_count.Goals as goal

pub returns-in-Ok-clause-goes : goal.returns-in-Ok-clause-goes
returns-in-Ok-clause-goes c =
    let w = c.args.world.now in
    let k = c.args.counted in
    let o = c.args.object in
    let s = ended_of c.args.answer in
    let fits : FitsSigned w64 c.in-Ok.count = search rules in
    let task = simp to_z-of_z at c.counted_task.ensures.task in
    asks-then (Count k o) c.args.answer w c.counted_task.result c.counted_outcome.result (λ t u. with_index u s (λ z. pass u (counted_task k o z)))
    (λ t u more. ap (λ m. start (with_index u s (λ z. pass u (counted_task k o z))) (made u m) more) c.counted_outcome.ensures)
    (λ t. c.in-Ok.ensures.given t (λ z. pass (plain t w) (counted_task k o z)) ∙ ap (pass (plain t w)) (sym (task t)))
