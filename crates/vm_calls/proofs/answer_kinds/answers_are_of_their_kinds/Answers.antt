use Rattle.vm_calls.proofs.Lemmas.{answered}
use Rattle.vm_calls.proofs.answer_kinds.answers_are_of_their_kinds.Goals as goal

pub returns : goal.returns
returns c = answered
