use Rattle.class_table.proofs.Lemmas.{layout-passed}
use Rattle.class_table.proofs.laws.bases_that_pass_keep_layouts.Goals as goal

pub returns : goal.returns
returns c = λ k bs d l there e. layout-passed c.args.classes.now c.sound.ensures.sound k bs l there e d
