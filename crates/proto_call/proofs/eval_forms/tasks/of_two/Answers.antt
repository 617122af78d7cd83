use Rattle.proto_call.proofs.Lemmas.{ap, sym, ◌∙◌, of_two}
use Rattle.proto_call.proofs.eval_forms.tasks.of_two.Goals as goal

pub returns-in-Sequence-clause-task : goal.returns-in-Sequence-clause-task
returns-in-Sequence-clause-task c = λ t. c.sequence_of_two.ensures.task t ∙ ap (λ w. of_two w c.args.a c.args.b) (sym c.in-Sequence.is)

pub returns-in-Object-clause-task : goal.returns-in-Object-clause-task
returns-in-Object-clause-task c = λ t. c.object_of_two.ensures.task t ∙ ap (λ w. of_two w c.args.a c.args.b) (sym c.in-Object.is)
