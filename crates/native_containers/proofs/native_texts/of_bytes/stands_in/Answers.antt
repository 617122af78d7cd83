use Rattle.native_containers.proofs.Lemmas.{contains_text, inside}
use Rattle.native_containers.proofs.native_texts.of_bytes.stands_in.Goals as goal

pub returns : goal.returns
returns c =
    inside c.contains.result c.args.part.now c.args.text.now (contains_text c.contains.result c.args.part.now c.args.text.now c.contains.ensures.cases)
