use Rattle.proto_attr.proofs.Lemmas.{of_task, IsName, IsNode, all-append}
use Rattle.proto_attr.proofs.get_attr.get_by_method.Goals as goal

pub returns-clause-safe : goal.returns-clause-safe
returns-clause-safe c =
    let new = c.by_name.new.world in
    let e = c.in_ok-task.ensures in
    (e.grows, all-append new (of_task c.in_ok-task.task) _ e.holds (e.grows.still (IsNode c.args.o) c.requires.0, (e.grows.still (IsName c.args.name) c.requires.1.0, tt)))
