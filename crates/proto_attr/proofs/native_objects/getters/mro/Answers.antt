use Rattle.proto_attr.proofs.Lemmas.{refl, sym, ap, ◌∙◌, place_of, lin-classes, numbers, the_tuple, ATuple, Holds, plain, datum, line-seen, sized_made, class_read, tuple_made, ends-after}
use Rattle.py_node.specs.declared.entry.Property.TheVariants as property
use Rattle.py_node.specs.declared.payload.Payload.TheVariants as payload
use Rattle.proto_attr.proofs.native_objects.getters.mro.Goals as goal

pub mro-requires : goal.mro-requires
unfolding Holds
mro-requires c = rw c.classes.ensures.same c.requires

pub class_nodes-requires : goal.class_nodes-requires
unfolding Holds
class_nodes-requires c = λ x i.
    lin-classes c.args.world.now.classes c.args.class.0 (numbers c.mro.result.now) x (rw c.classes.ensures.same at c.mro.ensures.line) i

pub returns-clause-ends : goal.returns-clause-ends
unfolding place_of
returns-clause-ends c =
    let w = c.args.world.now in
    let nodes = c.in_ok-nodes.nodes in
    let line = rw c.classes.ensures.same at c.mro.ensures.line in
    ends-after (λ t u. class_read u property.Mro c.args.class.0) (λ t u. sized_made u the_tuple (datum t (payload.Tuple nodes))) w c.new_sized.new.world c.new_sized.result (λ t r.
    let u = plain t w in
    ap (tuple_made u) (line-seen w w refl t c.args.class.0 ∙ line)
    ∙ ap (λ rs. sized_made u the_tuple (ATuple rs)) (sym c.in_ok-nodes.ensures.items)) c.new_sized.ensures.ends
