use Rattle.proto_attr.proofs.Lemmas.{IsNode}
use Rattle.proto_attr.proofs.set_attr.set_by_method.Goals as goal

pub returns-in_ok-args-in-Assign-clause-safe : goal.returns-in_ok-args-in-Assign-clause-safe
returns-in_ok-args-in-Assign-clause-safe c =
    let new = c.make_node.new.self in
    let k = c.in_ok-node.ensures in
    let value = k.grows.still (IsNode c.in-Assign.value) (rw c.in-Assign.is at c.requires).1.1.0 in
    let args = c.in_ok-args-in-Assign.ensures.holds new k.node value in
    rw c.asked.ensures (k.grows, (k.grows.still (IsNode c.args.o) c.requires.0, (c.known-method.ensures.holds, (args, rw c.new.ensures.items tt))))

pub returns-in_ok-args-in-Delete-clause-safe : goal.returns-in_ok-args-in-Delete-clause-safe
returns-in_ok-args-in-Delete-clause-safe c =
    let new = c.make_node.new.self in
    let k = c.in_ok-node.ensures in
    let args = c.in_ok-args-in-Delete.ensures.holds new k.node in
    rw c.asked-in-Delete.ensures (k.grows, (k.grows.still (IsNode c.args.o) c.requires.0, (c.known-method-in-Delete.ensures.holds, (args, rw c.new-in-Delete.ensures.items tt))))
