use Rattle.proto_object.proofs.Lemmas.{no-nodes}
use Rattle.proto_object.proofs.texts.begin_str.Goals as goal

pub special-task-requires-clause-args : goal.special-task-requires-clause-args
special-task-requires-clause-args c = rw c.new.ensures.items (no-nodes c.args.world.now)
