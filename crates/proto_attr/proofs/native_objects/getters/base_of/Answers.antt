use Rattle.proto_attr.proofs.Lemmas.{Some, None, sym, ap, ◌∙◌, option_map, base, ref, Holds, plain, or_none, base-seen}
use Rattle.std.proofs.Common.{◌≡◌}
use Rattle.proto_attr.proofs.native_objects.getters.base_of.Goals as goal

pub base-requires : goal.base-requires
unfolding Holds
base-requires c = rw c.classes.ensures.same c.requires

pub class_node-requires : goal.class_node-requires
unfolding Holds
class_node-requires c = rw c.classes.ensures.same at c.in-Some.ensures.there

pub returns-in-None-clause-base : goal.returns-in-None-clause-base
returns-in-None-clause-base c = λ t.
    let w = c.args.world.now in
    let own : base w.classes c.args.class.0 ≡ None = sym (rw (c.in-None.is, c.classes.ensures.same) at c.base.ensures.base) in
    ap (λ o. or_none (option_map ref o)) (base-seen t w c.args.class.0 ∙ own) ∙ ap ref (sym c.fixed.ensures.number)

pub returns-in-Some-clause-base : goal.returns-in-Some-clause-base
returns-in-Some-clause-base c = λ t.
    let w = c.args.world.now in
    let own : base w.classes c.args.class.0 ≡ Some c.in-Some.base.0 = sym (rw (c.in-Some.is, c.classes.ensures.same) at c.base.ensures.base) in
    ap (λ o. or_none (option_map ref o)) (base-seen t w c.args.class.0 ∙ own) ∙ sym c.class_node.ensures.reads
