use Rattle.proto_attr.proofs.Lemmas.{◌∙◌, [], ap, refl, GetterOf, known_text, Asks, DoGetAttr, ReadObjects, ToAttribute, with_one, bindings, plain, spelled_option, name_known, name-asks}
use Rattle.std.proofs.Common.{◌∷◌}
use Rattle.py_node.specs.declared.built_in.BuiltIn.TheVariants.{MemberDescriptor}
use Rattle.py_node.specs.declared.known.Known.TheVariants as known
use Rattle.py_node.specs.declared.task.AttributeTask.TheVariants as attribute
use Rattle.py_node.specs.declared.task.Task.TheVariants as task
use Rattle.proto_attr.proofs.native_details.names.begin_name.Goals as goal

-- src/names.rt:29:1
pub returns-in-None-clause-goes : goal.returns-in-None-clause-goes
returns-in-None-clause-goes c =
    let a = c.args in
    let w = a.world.now in
    let m = c.in-Ok.own.0 in
    let d = c.in-Ok.own.1 in
    name-asks (GetterOf MemberDescriptor a.detail) a.call.args.now a.call.kw.now w m c.class_object-class.result (task.Attribute (attribute.GetAttr c.class_object-class.result c.known.result)) (λ u bs b. refl) (λ t.
    let u = plain t w in
    c.in-Ok.ensures.given t (λ o x. with_one u a.call.args.now (bindings t a.call.kw.now) (λ y. name_known u o x.0 x.1))
    ∙ c.in_default.ensures.given t u (λ y. name_known u m d.class.0 (spelled_option t d.qualname))
    ∙ ap (λ q. name_known u m d.class.0 (spelled_option t q)) c.in-None.is
    ∙ ap (λ k. Asks u (ReadObjects (m ∷ []) ∷ []) (ToAttribute (DoGetAttr k (known_text known.Qualname)))) (c.class_object-class.ensures.object t)) (λ t q. ap (λ x. ToAttribute (DoGetAttr c.class_object-class.result x)) (c.known.ensures.spelled t q))
