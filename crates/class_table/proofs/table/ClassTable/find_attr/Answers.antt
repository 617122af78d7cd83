use Rattle.class_table.proofs.table.ClassTable.find_attr.Goals as goal

pub invariant_of-self : goal.invariant_of-self
invariant_of-self c = (c.self.invariant.0, c.put.ensures _ c.self.invariant.1 c.search-answer.ensures)
