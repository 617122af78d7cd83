use Rattle.proto_call.proofs.Lemmas.{Some, ap, arith, place_of, Object}
use Rattle.std.proofs.Common.{◌≡◌}
use Rattle.proto_call.proofs.object.object_new.Goals as goal

pub make_node-requires-clause-of : goal.make_node-requires-clause-of
unfolding place_of
make_node-requires-clause-of c =
    let at : c.in-Some-nearest_built_in.built_in.0 ≡ 0 = omega (arith, c.if-built_in-class.false, c.class.ensures) in
    c.in-Some-nearest_built_in.ensures.of Object (ap Some at)
