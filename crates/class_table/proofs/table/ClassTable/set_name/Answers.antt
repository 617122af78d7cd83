use Rattle.class_table.proofs.Lemmas.{coherent-then}
use Rattle.class_table.proofs.table.ClassTable.set_name.Goals as goal

pub invariant_of-self : goal.invariant_of-self
invariant_of-self c = (coherent-then _ _ c.rename_in.result c.rename_in.ensures.coherent c.rename_in.ensures.err c.self.invariant.0, c.raise.ensures _ _ c.self.invariant.1)
