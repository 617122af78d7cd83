use Rattle.py_node.proofs.Lemmas.{refl, kind_words}
use Rattle.py_node.proofs.raised.all_kinds.Goals as goal

pub returns-clause-words : goal.returns-clause-words
unfolding kind_words
returns-clause-words c = refl
