use Rattle.proto_attr.proofs.Lemmas.{Some, None, Err, refl, sym, ap, ◌∙◌, subst, [], Answered, known_text, Ask, End, special_at, plain, spelled, Steps, Pass, or_get_attr, by_name, attribute_stands, get-attr-said}
use Rattle.std.proofs.Common.{◌≡◌, ◌∷◌}
use Rattle.py_node.specs.declared.known.Known.TheVariants as known
use Rattle.proto_attr.specs.declared.AttributeKept.TheVariants as kept
use Rattle.proto_attr.proofs.get_attr.by_get_attr.Goals as goal

pub returns-in-None-clause-goes : goal.returns-in-None-clause-goes
returns-in-None-clause-goes c = λ t r.
    let o = c.args.o in
    let x = spelled t c.args.name in
    let fault = c.args.fault in
    let u = plain t c.args.world.now in
    let found : special_at u o (known_text known.GetAttr) ≡ None = ap (special_at u o) (sym (c.known-method.ensures.spelled t r)) ∙ c.in-None.ensures.found t r in
    let said = get-attr-said u o x fault [] c.requires.kind ∙ ap (λ s. or_get_attr u s o x fault) found in
    (r, subst (λ s. Steps (attribute_stands t) t (attribute_stands t (kept.GetAttr o c.args.name) (Err fault)) s (End (Err fault)) c.args.world.now) (sym said) (refl, refl))

pub returns-in_ok-task-in-Some-clause-goes : goal.returns-in_ok-task-in-Some-clause-goes
returns-in_ok-task-in-Some-clause-goes c = λ t r.
    let o = c.args.o in
    let x = spelled t c.args.name in
    let fault = c.args.fault in
    let k = c.in_ok-task-in-Some.ensures in
    let mid = k.reads t r in
    let u = plain t c.args.world.now in
    let method = c.known-method.ensures.spelled t mid in
    let found : special_at u o (known_text known.GetAttr) ≡ Some c.in-Some.field-0 = ap (special_at u o) (sym method) ∙ c.in-Some.ensures.found t mid in
    let said = get-attr-said u o x fault [] c.requires.kind ∙ ap (λ s. or_get_attr u s o x fault) found in
    let task = k.task t r ∙ ap (by_name u o) method in
    (mid, subst (λ s. Steps (attribute_stands t) t (attribute_stands t (kept.GetAttr o c.args.name) (Err fault)) s (Ask c.in_ok-task-in-Some.task Pass) c.by_name.new.world) (sym said) (task, k.made t r, λ w a more. get-attr-said w o x fault (Answered a ∷ more) c.requires.kind))
