use Rattle.proto_call.proofs.Lemmas.{map, ◌∙◌, spelled, open-read}
use Rattle.proto_call.proofs.parameters.is_open.Goals as goal

pub returns-then-is_member : goal.returns-then-is_member
returns-then-is_member c = λ t.
    open-read t (map (spelled t) c.args.params.now) c.args.vars.now c.args.name c.contains.result (c.is_member.ensures t ∙ c.if-is_member.true) c.contains.ensures
