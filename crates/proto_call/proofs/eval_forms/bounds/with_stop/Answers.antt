use Rattle.proto_call.proofs.Lemmas.{sym, ap, ◌∙◌, rules, w64, FitsSigned, to_z-of_z, pass, value, plain, ended_of, Stop, part_task, with_index, asks-then, start}
use Rattle.proto_call.specs.EvalForms.Words.{made}
use Rattle.proto_call.proofs.eval_forms.bounds.with_stop.Goals as goal

pub returns-in-Ok-number_in-clause-goes : goal.returns-in-Ok-number_in-clause-goes
returns-in-Ok-number_in-clause-goes c =
    let w = c.args.world.now in
    let p = c.args.part in
    let o = c.args.object in
    let i = c.args.start in
    let s = ended_of c.args.answer in
    let first = c.in-Ok.first in
    let here : FitsSigned w64 c.in-Ok.first = search rules in
    let there : FitsSigned w64 c.in-Ok-number_in.last = search rules in
    let task = simp to_z-of_z at c.part_task.ensures.task in
    asks-then (Stop p o i) c.args.answer w c.part_task.result c.part_outcome.result (λ t u. with_index u (value i) (λ a. with_index u s (λ b. pass u (part_task p o a b))))
    (λ t u more. ap (λ m. start (with_index u (value i) (λ a. with_index u s (λ b. pass u (part_task p o a b)))) (made u m) more) c.part_outcome.ensures)
    (λ t. c.in-Ok.ensures.given t (λ a. with_index (plain t w) s (λ b. pass (plain t w) (part_task p o a b)))
    ∙ c.in-Ok-number_in.ensures.given t (λ b. pass (plain t w) (part_task p o first b))
    ∙ ap (pass (plain t w)) (sym (task t)))
