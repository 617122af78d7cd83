use Rattle.proto_call.proofs.Lemmas.{sym, ap, ◌∙◌, is_some, known_text, has-read}
use Rattle.proto_call.proofs.class_make.attributes.has_name.Goals as goal

pub returns : goal.returns
returns c = λ t r.
    ap is_some (has-read t c.args.attrs.now c.known.result (known_text c.args.name) (c.known.ensures.spelled t r)) ∙ sym c.contains.ensures
