use Rattle.py_node.proofs.Lemmas.{refl, cause_rows}
use Rattle.py_node.proofs.raised.all_causes.Goals as goal

pub returns-clause-rows : goal.returns-clause-rows
unfolding cause_rows
returns-clause-rows c = refl
