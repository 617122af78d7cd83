use Rattle.py_node.proofs.Lemmas.{sym, subst, ◌∙◌, List, None, Some, position, is_of, set-absent, set-found, PyObjectRef, PyStrInterned}
use Rattle.std.proofs.Common.{◌≡◌}
use Rattle.py_node.proofs.few_attributes.put_among.Goals as goal

pub returns-in_ok-push-in-None-clause-ok : goal.returns-in_ok-push-in-None-clause-ok
returns-in_ok-push-in-None-clause-ok c =
    let nowhere : position (is_of c.args.name) c.args.entries.now.items ≡ None =
    subst (λ (es : List (PyStrInterned × PyObjectRef)). position (is_of c.args.name) es ≡ None) c.deref.ensures.value (sym c.place_among.ensures.first ∙ c.in-None.is) in
    c.in_ok-push-in-None.ensures.items ∙ set-absent c.args.name c.args.entries.now.items c.args.value nowhere

pub returns-in-Some-clause-ok : goal.returns-in-Some-clause-ok
returns-in-Some-clause-ok c =
    let there : position (is_of c.args.name) c.args.entries.now.items ≡ Some c.in-Some.place =
    subst (λ (es : List (PyStrInterned × PyObjectRef)). position (is_of c.args.name) es ≡ Some c.in-Some.place) c.deref.ensures.value (sym c.place_among.ensures.first ∙ c.in-Some.is) in
    set-found c.args.name c.args.entries.now.items c.args.value c.in-Some.place there
