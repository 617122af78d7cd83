use Rattle.table_lines.proofs.Lemmas.{[], names-push, no-names}
use Rattle.table_lines.proofs.lists.one_name.Goals as goal

pub returns : goal.returns
returns c = λ w h. rw c.in_ok-vec.ensures.items (names-push w [] c.args.name (no-names w) h)
