use Rattle.world_text.proofs.Lemmas.{[], ◌∙◌, join-read}
use Rattle.std.proofs.Common.{◌∷◌}
use Rattle.world_text.proofs.show.with_commas.Goals as goal

pub returns : goal.returns
returns c = c.in_ok-join.ensures.ok ∙ join-read (44 ∷ 32 ∷ []) c.args.texts.now
