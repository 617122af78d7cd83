use Rattle.proto_call.proofs.Lemmas.{put-goes, insert-holds, plain, datum, IsName}
use Rattle.proto_call.proofs.class_make.attributes.put.Goals as goal

pub returns-clause-becomes : goal.returns-clause-becomes
returns-clause-becomes c = λ t r.
    put-goes t (plain t c.args.world.now) (plain t c.make_node.new.self) c.args.attrs c.insert.new.self c.args.name c.args.class.0 (datum t c.args.payload) c.in_ok-node.node (c.in_ok-node.ensures.made t) c.in_ok-insert.ensures.ok (c.in_ok-node.ensures.number t)

pub returns-clause-holds : goal.returns-clause-holds
returns-clause-holds c =
    insert-holds c.args.world.now c.make_node.new.self c.args.attrs c.insert.new.self c.args.name c.in_ok-node.node c.in_ok-node.ensures.grows c.requires.attrs (c.in_ok-node.ensures.grows.still (IsName c.args.name) c.requires.name) c.in_ok-node.ensures.node c.in_ok-insert.ensures.ok
