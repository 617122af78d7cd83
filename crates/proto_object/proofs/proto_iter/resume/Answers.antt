use Rattle.proto_object.proofs.Lemmas.{grows-itself}
use Rattle.proto_object.proofs.proto_iter.resume.Goals as goal

pub returns-in-AfterNext-clause-safe : goal.returns-in-AfterNext-clause-safe
returns-in-AfterNext-clause-safe c = (grows-itself c.args.world.now, c.next_given.ensures.safe c.args.world.now c.requires.answer)
