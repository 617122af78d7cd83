use Rattle.proto_call.proofs.Lemmas.{ap, sym, ◌∙◌, of_one}
use Rattle.proto_call.proofs.eval_forms.tasks.of_one.Goals as goal

pub returns-in-Sequence-clause-task : goal.returns-in-Sequence-clause-task
returns-in-Sequence-clause-task c = λ t. c.sequence_of_one.ensures.task t ∙ ap (λ w. of_one w c.args.o) (sym c.in-Sequence.is)

pub returns-in-Object-clause-task : goal.returns-in-Object-clause-task
returns-in-Object-clause-task c = λ t. c.object_of_one.ensures.task t ∙ ap (λ w. of_one w c.args.o) (sym c.in-Object.is)
