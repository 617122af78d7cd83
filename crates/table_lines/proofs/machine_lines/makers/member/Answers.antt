use Rattle.table_lines.proofs.Lemmas.{refl, Holds}
use Rattle.table_lines.proofs.machine_lines.makers.member.Goals as goal

-- a native reads it, and nothing sets it: it names no place
pub new_member-made-requires-clause-read : goal.new_member-made-requires-clause-read
unfolding Holds
new_member-made-requires-clause-read c = refl

pub new_member-made-requires-clause-set : goal.new_member-made-requires-clause-set
unfolding Holds
new_member-made-requires-clause-set c = refl
