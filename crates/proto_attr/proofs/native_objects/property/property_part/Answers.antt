use Rattle.proto_attr.proofs.Lemmas.{subst, sym, ap, ◌∙◌, AllHold, of_property, part_set, set-holds}
use Rattle.proto_attr.proofs.native_objects.property.property_part.Goals as goal

pub make_node-requires-clause-payload : goal.make_node-requires-clause-payload
make_node-requires-clause-payload c =
    let w = c.args.world.now in
    let native = c.args.native in
    let part = c.in_ok-part.part in
    let boxed = c.in_ok-boxed.ensures.ok in
    subst (λ p. AllHold w (of_property p)) (sym (boxed ∙ c.with_other-parts.ensures ∙ ap (λ p. part_set native p part) c.bare.ensures)) (set-holds w native c.in_ok-object.parts part c.in_ok-object.ensures.parts (c.in_ok-part.ensures.second w c.requires))
