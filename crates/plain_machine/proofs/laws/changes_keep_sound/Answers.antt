use Rattle.plain_machine.proofs.Lemmas.{keeps-sound}
use Rattle.plain_machine.proofs.laws.changes_keep_sound.Goals as goal

pub returns : goal.returns
returns c = keeps-sound
