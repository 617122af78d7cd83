use Rattle.proto_attr.proofs.Lemmas.{grows-itself}
use Rattle.proto_attr.proofs.native_objects.setters.class_written.Goals as goal

pub returns-in_ok-set_class_dict-in-Dict-clause-safe : goal.returns-in_ok-set_class_dict-in-Dict-clause-safe
returns-in_ok-set_class_dict-in-Dict-clause-safe c =
    let w = c.args.world.now in
    (grows-itself w, c.in_ok-set_class_dict-in-Dict.ensures.holds w)
