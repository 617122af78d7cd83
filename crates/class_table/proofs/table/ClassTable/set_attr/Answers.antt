use Rattle.class_table.proofs.Lemmas.{coherent-then}
use Rattle.class_table.proofs.table.ClassTable.set_attr.Goals as goal

pub invariant_of-self : goal.invariant_of-self
invariant_of-self c = (coherent-then _ _ c.set_heap.result c.set_heap.ensures.coherent c.set_heap.ensures.err c.self.invariant.0, c.raise.ensures _ _ c.self.invariant.1)
