use Rattle.py_node.proofs.Lemmas.{◌∙◌, insert_entry-with_value}
use Rattle.py_node.proofs.attributes.put_in.Goals as goal

pub returns-clause-ok : goal.returns-clause-ok
returns-clause-ok c = c.in_ok-insert.ensures.entries ∙ insert_entry-with_value c.args.map.now.entries c.args.name c.args.value
