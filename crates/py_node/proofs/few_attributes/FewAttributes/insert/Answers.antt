use Rattle.py_node.proofs.Lemmas.{List, sym, subst, PyObjectRef, PyStrInterned, AreNamesDistinct, distinct-with}
use Rattle.py_node.proofs.few_attributes.FewAttributes.insert.Goals as goal

pub invariant_of-self-2 : goal.invariant_of-self-2
invariant_of-self-2 c =
    subst (λ (l : List (PyStrInterned × PyObjectRef)). AreNamesDistinct l) (sym c.in_ok-put_among.ensures.ok) (distinct-with c.self.inside.entries.items c.args.name c.args.value c.self.invariant)
