use Rattle.class_table.proofs.Lemmas.{sound-passed}
use Rattle.class_table.proofs.laws.bases_that_pass_keep_classes_sound.Goals as goal

pub returns : goal.returns
returns c = λ k bs l there e. sound-passed c.args.classes.now c.sound.ensures.sound k bs l there e
