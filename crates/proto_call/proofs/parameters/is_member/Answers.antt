use Rattle.proto_call.proofs.Lemmas.{sym, ◌∙◌, is_member-read}
use Rattle.proto_call.proofs.parameters.is_member.Goals as goal

pub returns : goal.returns
returns c = λ t. is_member-read t c.args.names.now c.args.name ∙ sym c.contains.ensures.value
