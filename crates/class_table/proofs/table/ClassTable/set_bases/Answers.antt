use Rattle.class_table.proofs.Lemmas.{coherent-then}
use Rattle.class_table.proofs.table.ClassTable.set_bases.Goals as goal

pub invariant_of-self : goal.invariant_of-self
invariant_of-self g c = (coherent-then _ _ c.rebase.result c.rebase.ensures.coherent c.rebase.ensures.err c.self.invariant.0, c.raise.ensures _ _ c.self.invariant.1)
