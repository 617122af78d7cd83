use Rattle.proto_attr.proofs.Lemmas.{grows-itself, some-holds}
use Rattle.proto_attr.proofs.native_objects.getters.dict_of_any.Goals as goal

pub returns-in_ok-dict_or_fault-in-None-clause-safe : goal.returns-in_ok-dict_or_fault-in-None-clause-safe
returns-in_ok-dict_or_fault-in-None-clause-safe c =
    let w = c.args.world.now in
    (grows-itself w, c.in_ok-dict_or_fault-in-None.ensures.holds w (some-holds w c.dict_of.result c.dict_of.ensures.node))
