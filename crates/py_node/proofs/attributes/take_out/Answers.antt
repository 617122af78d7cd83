use Rattle.py_node.proofs.Lemmas.{◌∙◌, removed-without}
use Rattle.py_node.proofs.attributes.take_out.Goals as goal

pub returns : goal.returns
returns c = c.shift_remove.ensures.entries ∙ removed-without c.args.map.now.entries c.args.name c.len-count.ensures.unique
