use Rattle.world_text.proofs.Lemmas.{text-seen}
use Rattle.world_text.proofs.class_lines.push_classes.Goals as goal

pub returns : goal.returns
returns c = λ t r. rw (text-seen c.args.world.now t c.classes.ensures.known r, ← c.classes.ensures.same) c.in_ok-push_each.ensures
