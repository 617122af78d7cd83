use Rattle.proto_attr.proofs.Lemmas.{first-node}
use Rattle.proto_attr.proofs.special.bound.Goals as goal

pub returns-clause-holds : goal.returns-clause-holds
returns-clause-holds c = λ w h k. rw c.in_ok-all.ensures (first-node w c.args.object c.args.args.now h k)
