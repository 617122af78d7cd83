use Rattle.proto_attr.proofs.Lemmas.{subst, sym, AllHold, of_property, placed-hold, name-holds}
use Rattle.proto_attr.proofs.native_objects.property.property_init.Goals as goal

pub with_parts-requires-clause-parts : goal.with_parts-requires-clause-parts
with_parts-requires-clause-parts c =
    let w = c.args.world.now in
    subst (λ p. AllHold w (of_property p)) (sym c.placed.ensures) (placed-hold w c.args.call.args.now c.requires.args)

pub may_name-requires : goal.may_name-requires
may_name-requires c =
    let w = c.args.world.now in
    name-holds w c.without_none-parts.result (c.without_none-parts.ensures.holds w c.in-Some.ensures.holds)

pub set_property-requires-clause-parts : goal.set_property-requires-clause-parts
set_property-requires-clause-parts c = c.without_none-parts.ensures.holds c.args.world.now c.in-Some.ensures.holds
