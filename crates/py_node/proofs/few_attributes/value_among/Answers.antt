use Rattle.py_node.proofs.Lemmas.{sym, ◌∙◌, value-absent, value-found}
use Rattle.py_node.proofs.few_attributes.value_among.Goals as goal

pub returns-in-None : goal.returns-in-None
returns-in-None c = sym (value-absent c.args.name c.args.entries.now (sym c.place_among.ensures.first ∙ c.in-None.is))

pub returns-in-Some : goal.returns-in-Some
returns-in-Some c = sym (value-found c.args.name c.args.entries.now c.in-Some.place _ (sym c.place_among.ensures.first ∙ c.in-Some.is))
