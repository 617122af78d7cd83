use Rattle.proto_attr.proofs.Lemmas.{rest-hold}
use Rattle.proto_attr.proofs.native_calls.bind.bound.Goals as goal

pub returns-in_ok-o-in-len1-up-clause-object : goal.returns-in_ok-o-in-len1-up-clause-object
returns-in_ok-o-in-len1-up-clause-object c =
    c.in_ok-o-in-len1-up.ensures.object c.args.world.now (rest-hold c.args.world.now c.args.call.args.now c.requires)

pub returns-in_ok-o-in-len1-up-clause-class : goal.returns-in_ok-o-in-len1-up-clause-class
returns-in_ok-o-in-len1-up-clause-class c =
    c.in_ok-o-in-len1-up.ensures.class c.args.world.now (rest-hold c.args.world.now c.args.call.args.now c.requires)
