use Rattle.proto_call.proofs.Lemmas.{err_from_is_err_and, sym, ap, subst, ◌∙◌, place_of, subclasses, Includes, the_list, AList, Holds, plain, bindings, datum, sized_made, classes_made, type_subclasses, ends-after, subclass-there, subclasses-seen}
use Rattle.py_node.specs.declared.payload.Payload.TheVariants as payload
use Rattle.proto_call.proofs.class_make.type_natives.type_subclasses.Goals as goal

pub subclasses-requires : goal.subclasses-requires
unfolding Holds
subclasses-requires c = rw c.classes.ensures.same c.in_ok-class.ensures.class

pub class_nodes-requires : goal.class_nodes-requires
unfolding Holds
class_nodes-requires c = λ x i.
    let same = rw c.classes.ensures.same at c.subclasses.ensures in
    subclass-there c.args.world.now.classes c.in_ok-class.class.0 x (subst (λ cs. Includes cs x) same i)

pub returns-in_err-class-clause-ends : goal.returns-in_err-class-clause-ends
returns-in_err-class-clause-ends c =
    let p = err_from_is_err_and c.from_residual.result c.from_residual.ensures.1 in
    rw (p.1, p.2) (λ t r.
    let u = plain t c.args.world.now in
    (r, c.in_err-class.ensures.refused t (λ k. classes_made u (subclasses u.classes k))))

pub returns-clause-ends : goal.returns-clause-ends
unfolding place_of
returns-clause-ends c =
    let w = c.args.world.now in
    let nodes = c.in_ok-nodes.nodes in
    let same = rw c.classes.ensures.same at c.subclasses.ensures in
    ends-after (λ t u. type_subclasses u c.args.call.args.now (bindings t c.args.call.kw.now)) (λ t u. sized_made u the_list (datum t (payload.List nodes))) w c.new_sized.new.world c.new_sized.result (λ t r.
    let u = plain t w in
    c.in_ok-class.ensures.given t (λ k. classes_made u (subclasses u.classes k))
    ∙ ap (classes_made u) (subclasses-seen t w c.in_ok-class.class.0 ∙ sym same)
    ∙ ap (λ rs. sized_made u the_list (AList rs)) (sym c.in_ok-nodes.ensures.items)) c.new_sized.ensures.ends
