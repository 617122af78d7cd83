use Rattle.proto_object.proofs.Lemmas.{calls, calls-safe}
use Rattle.proto_object.proofs.proto_items.views.loaded.Goals as goal

pub returns-clause-goes : goal.returns-clause-goes
returns-clause-goes c = calls c.new.result c.new-2.result c.new.ensures.items c.new-2.ensures.items c.args.world.now c.args.method

pub returns-clause-safe : goal.returns-clause-safe
returns-clause-safe c = calls-safe c.new.result c.new-2.result c.new.ensures.items c.new-2.ensures.items c.args.world.now c.args.method c.requires
