use Rattle.proto_attr.proofs.Lemmas.{place_of, the_object, ASuper, plain, object_made, maker_say, ends-made}
use Rattle.std.specs.Prelude.{None}
use Rattle.py_node.specs.declared.built_in.BuiltIn.TheVariants as built_in
use Rattle.proto_attr.proofs.native_objects.makers.new_super.Goals as goal

pub returns-clause-ends : goal.returns-clause-ends
unfolding place_of
returns-clause-ends c =
    let w = c.args.world.now in
    let e = c.in_ok-node.ensures in
    let given = c.in_ok-class.ensures.given in
    let made = rw (c.in_ok-parts.ensures, c.built_in-typ.ensures.place) at e.made in
    ends-made (λ t u. maker_say u built_in.Super c.args.args.now) w c.make_node.new.self c.in_ok-class.class.0 (λ t. ASuper the_object None) c.in_ok-node.node (λ t q. given t (λ k. object_made (plain t w) k (ASuper the_object None))) made e.number e.reads
