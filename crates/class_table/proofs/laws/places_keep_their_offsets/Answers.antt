use Rattle.class_table.proofs.Lemmas.{place-keeps}
use Rattle.class_table.proofs.laws.places_keep_their_offsets.Goals as goal

pub returns : goal.returns
returns c = λ k d n m h e few. place-keeps c.args.classes.now c.sound.ensures.sound k d n m h e few
