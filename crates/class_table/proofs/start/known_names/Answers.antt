use Rattle.class_table.proofs.Lemmas.{known-distinct}
use Rattle.class_table.proofs.start.known_names.Goals as goal

pub table_of-requires : goal.table_of-requires
table_of-requires c = rw c.all_known.ensures.texts known-distinct

pub returns : goal.returns
returns c = rw c.all_known.ensures.texts at c.table_of.ensures
