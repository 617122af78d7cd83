use Rattle.proto_attr.proofs.native_objects.setters.set_dict.Goals as goal

pub returns-in-Some-clause-holds : goal.returns-in-Some-clause-holds
returns-in-Some-clause-holds c = c.set_class_dict.ensures.holds c.args.world.now
