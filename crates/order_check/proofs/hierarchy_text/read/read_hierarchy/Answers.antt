use Rattle.order_check.proofs.Lemmas.{view, value-order}
use Rattle.order_check.proofs.hierarchy_text.read.read_hierarchy.Goals as goal

pub returns-clause-order : goal.returns-clause-order
returns-clause-order c = value-order (view c.in_ok-value.value) c.read_value.result c.read_value.ensures.ok
