use Rattle.table_lines.proofs.Lemmas.{no-names}
use Rattle.table_lines.proofs.lists.no_names.Goals as goal

pub returns : goal.returns
returns c = λ w. rw c.new.ensures.items (no-names w)
