use Rattle.class_table.proofs.Lemmas.{◌∙◌}
use Rattle.class_table.proofs.table.ClassTable.new.Goals as goal

pub returns : goal.returns
returns c = c.in_ok-reserve_rows.ensures ∙ c.in_ok-table.ensures
