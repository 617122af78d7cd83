use Rattle.proto_call.proofs.Lemmas.{err_from_is_err_and, refl, sym, ap, ◌∙◌, place_of, lin, lin-classes, numbers, the_list, AList, Holds, plain, bindings, datum, line-seen, sized_made, classes_made, type_mro, or_nothing, ends-after}
use Rattle.py_node.specs.declared.payload.Payload.TheVariants as payload
use Rattle.proto_call.proofs.class_make.type_natives.type_mro.Goals as goal

pub mro-requires : goal.mro-requires
unfolding Holds
mro-requires c = rw c.classes.ensures.same c.in_ok-class.ensures.class

pub class_nodes-requires : goal.class_nodes-requires
unfolding Holds
class_nodes-requires c = λ x i.
    lin-classes c.args.world.now.classes c.in_ok-class.class.0 (numbers c.mro.result.now) x (rw c.classes.ensures.same at c.mro.ensures.line) i

pub returns-in_err-class-clause-ends : goal.returns-in_err-class-clause-ends
returns-in_err-class-clause-ends c =
    let p = err_from_is_err_and c.from_residual.result c.from_residual.ensures.1 in
    rw (p.1, p.2) (λ t r.
    let u = plain t c.args.world.now in
    (r, c.in_err-class.ensures.refused t (λ k. classes_made u (or_nothing (lin u.classes k)))))

pub returns-clause-ends : goal.returns-clause-ends
unfolding place_of
returns-clause-ends c =
    let w = c.args.world.now in
    let nodes = c.in_ok-nodes.nodes in
    let line = rw c.classes.ensures.same at c.mro.ensures.line in
    ends-after (λ t u. type_mro u c.args.call.args.now (bindings t c.args.call.kw.now)) (λ t u. sized_made u the_list (datum t (payload.List nodes))) w c.new_sized.new.world c.new_sized.result (λ t r.
    let u = plain t w in
    c.in_ok-class.ensures.given t (λ k. classes_made u (or_nothing (lin u.classes k)))
    ∙ ap (λ l. classes_made u (or_nothing l)) (line-seen w w refl t c.in_ok-class.class.0 ∙ line)
    ∙ ap (λ rs. sized_made u the_list (AList rs)) (sym c.in_ok-nodes.ensures.items)) c.new_sized.ensures.ends
