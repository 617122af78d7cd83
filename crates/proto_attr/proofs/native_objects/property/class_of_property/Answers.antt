use Rattle.proto_attr.proofs.Lemmas.{Property, class-of}
use Rattle.proto_attr.proofs.native_objects.property.class_of_property.Goals as goal

pub returns-clause-of : goal.returns-clause-of
returns-clause-of c =
    let t = c.readable.ensures.0 in
    class-of t c.args.world.now c.args.object Property c.class_of.result.0 c.payload-payload.result.now (c.sound.ensures t) (c.class_of.ensures.reads t) (c.payload-payload.ensures.reads t) c.payload-payload.ensures.holding c.requires.holding
