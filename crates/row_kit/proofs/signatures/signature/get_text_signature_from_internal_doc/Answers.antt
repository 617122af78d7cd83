use Rattle.row_kit.proofs.Lemmas.{signature-told}
use Rattle.row_kit.proofs.signatures.signature.get_text_signature_from_internal_doc.Goals as goal

pub returns-clause-equals : goal.returns-clause-equals
returns-clause-equals c =
    signature-told (λ x. x.now) c.signature.result c.args.name.now c.last_part.result.now c.args.doc.now c.last_part.ensures.past c.signature.ensures.found c.signature.ensures.none
