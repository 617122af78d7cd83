use Rattle.proto_attr.proofs.native_objects.details.own_part.Goals as goal

pub returns-in-Some-clause-holds : goal.returns-in-Some-clause-holds
returns-in-Some-clause-holds c = rw c.in-Some.is at (c.part_of.ensures.holds c.args.world.now c.payload.ensures.holds)
