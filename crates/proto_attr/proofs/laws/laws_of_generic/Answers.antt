use Rattle.proto_attr.proofs.Lemmas.{answer-given, class-last, data-wins, dict-next, neither-has}
use Rattle.proto_attr.proofs.laws.laws_of_generic.Goals as goal

pub returns-clause-data : goal.returns-clause-data
returns-clause-data c = data-wins

pub returns-clause-dict : goal.returns-clause-dict
returns-clause-dict c = dict-next

pub returns-clause-class : goal.returns-clause-class
returns-clause-class c = class-last

pub returns-clause-neither : goal.returns-clause-neither
returns-clause-neither c = neither-has

pub returns-clause-given : goal.returns-clause-given
returns-clause-given c = answer-given
