use Rattle.world_text.proofs.Lemmas.{named}
use Rattle.world_text.proofs.expressions.name_of.Goals as goal

pub returns-clause-name : goal.returns-clause-name
returns-clause-name c = named _ _ _ c.intern.result c.intern.ensures.spelled c.intern.ensures.holds c.as_str.ensures.value
