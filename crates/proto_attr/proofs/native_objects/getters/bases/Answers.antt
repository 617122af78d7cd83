use Rattle.proto_attr.proofs.Lemmas.{sym, ap, ◌∙◌, place_of, numbers, the_tuple, ATuple, Holds, plain, datum, sized_made, class_read, tuple_made, bases-seen, ends-after}
use Rattle.py_node.specs.declared.entry.Property.TheVariants as property
use Rattle.py_node.specs.declared.payload.Payload.TheVariants as payload
use Rattle.proto_attr.proofs.native_objects.getters.bases.Goals as goal

pub bases-requires : goal.bases-requires
unfolding Holds
bases-requires c = rw c.classes-table.ensures.same c.requires

pub class_nodes-requires : goal.class_nodes-requires
unfolding Holds
class_nodes-requires c = λ x i.
    let all = rw c.classes-table.ensures.same at c.sound.ensures.sound in
    let own = rw c.classes-table.ensures.same at c.bases.ensures in
    all.there c.args.class.0 x (numbers c.bases.result.now) own i

pub returns-clause-ends : goal.returns-clause-ends
unfolding place_of
returns-clause-ends c =
    let w = c.args.world.now in
    let nodes = c.in_ok-nodes.nodes in
    let own = rw c.classes-table.ensures.same at c.bases.ensures in
    ends-after (λ t u. class_read u property.Bases c.args.class.0) (λ t u. sized_made u the_tuple (datum t (payload.Tuple nodes))) w c.new_sized.new.world c.new_sized.result (λ t r.
    let u = plain t w in
    ap (tuple_made u) (bases-seen t w c.args.class.0 ∙ own)
    ∙ ap (λ rs. sized_made u the_tuple (ATuple rs)) (sym c.in_ok-nodes.ensures.items)) c.new_sized.ensures.ends
