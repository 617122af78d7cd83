use Rattle.proto_call.proofs.Lemmas.{ap, sym, ◌∙◌, task_for, one-item, two-items, three-items}
use Rattle.proto_call.proofs.eval_forms.tasks.task_for.Goals as goal

pub returns-in-len1-clause-task : goal.returns-in-len1-clause-task
returns-in-len1-clause-task c = λ t.
    c.of_one.ensures.task t ∙ ap (task_for c.args.word) (sym (one-item c.args.values.now (record { 0 = 0 }) c.in-len1.len_at_least c.in-len1.len_below))

pub returns-in-len2-clause-task : goal.returns-in-len2-clause-task
returns-in-len2-clause-task c = λ t.
    c.of_two.ensures.task t ∙ ap (task_for c.args.word) (sym (two-items c.args.values.now (record { 0 = 0 }) c.in-len2.len_at_least c.in-len2.len_below))

pub returns-in-len3-clause-task : goal.returns-in-len3-clause-task
returns-in-len3-clause-task c = λ t.
    c.of_three.ensures.task t ∙ ap (task_for c.args.word) (sym (three-items c.args.values.now (record { 0 = 0 }) c.in-len3.len_at_least c.in-len3.len_below))
