use Rattle.py_node.proofs.Lemmas.{sym, subst, ◌∙◌, List, None, Some, position, is_of, cut-absent, cut-found, PyObjectRef, PyStrInterned}
use Rattle.std.proofs.Common.{◌≡◌}
use Rattle.py_node.proofs.few_attributes.cut_among.Goals as goal

pub returns-in-None : goal.returns-in-None
returns-in-None c =
    let nowhere : position (is_of c.args.name) c.args.entries.now.items ≡ None =
    subst (λ (es : List (PyStrInterned × PyObjectRef)). position (is_of c.args.name) es ≡ None) c.deref.ensures.value (sym c.place_among.ensures.first ∙ c.in-None.is) in
    cut-absent c.args.name c.args.entries.now.items nowhere

pub returns-in-Some : goal.returns-in-Some
returns-in-Some c =
    let there : position (is_of c.args.name) c.args.entries.now.items ≡ Some c.in-Some.place =
    subst (λ (es : List (PyStrInterned × PyObjectRef)). position (is_of c.args.name) es ≡ Some c.in-Some.place) c.deref.ensures.value (sym c.place_among.ensures.first ∙ c.in-Some.is) in
    c.remove.ensures.items ∙ cut-found c.args.name c.args.entries.now.items c.in-Some.place c.remove.result c.requires there
