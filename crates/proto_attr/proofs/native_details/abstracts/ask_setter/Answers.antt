use Rattle.proto_attr.proofs.Lemmas.{[], all-append, of_task, IsNode}
use Rattle.std.proofs.Common.{◌∷◌}
use Rattle.proto_attr.proofs.native_details.abstracts.ask_setter.Goals as goal

pub returns-in-Some-clause-safe : goal.returns-in-Some-clause-safe
returns-in-Some-clause-safe c =
    all-append c.args.world.now (of_task c.ask_whether.result) (IsNode c.or_false-getter.result ∷ []) c.ask_whether.ensures.holds (c.or_false-getter.ensures.node, tt)
