use Rattle.class_table.proofs.table.ClassTable.del_attr_direct.Goals as goal

pub invariant_of-self : goal.invariant_of-self
invariant_of-self c = (c.take_heap.ensures.coherent, c.raise.ensures _ _ c.self.invariant.1)
